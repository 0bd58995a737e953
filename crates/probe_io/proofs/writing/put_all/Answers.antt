use Rattle.std.proofs.Common.{◌∙◌, arith}
use Rattle.probe_io.proofs.CauseLemmas.{on_err}
use Rattle.probe_io.proofs.WrittenLemmas.{Appends-slice, AppendsFront-slice}
use Rattle.probe_io.proofs.writing.put_all.Goals as goal

pub returns-in_err-done-clause-front : goal.returns-in_err-done-clause-front
returns-in_err-done-clause-front g c = on_err _ (AppendsFront-slice _ _ c.loop-done.invariant.written c.in_err-done.ensures.stays)

pub loop-done-preserved : goal.loop-done-preserved
loop-done-preserved g c = record {
  in_range = grind (arith, c.in_ok-done.ensures.most);
  written = Appends-slice _ _ _ c.loop-done.invariant.written c.in_ok-done.ensures.taken;
  later = omega (arith, c.loop-done.invariant.later, c.in_ok-done.ensures.cause.later);
  quiet = λ strict. c.in_ok-done.ensures.cause.quiet strict ∙ c.loop-done.invariant.quiet strict;
  lender = c.in_ok-done.ensures.lender ∙ c.loop-done.invariant.lender;
}
