use Rattle.std.proofs.Common.{◌∙◌, arith}
use Rattle.probe_io.proofs.WrittenLemmas.{Appends-slice}
use Rattle.proof_sinks.proofs.text.send.Goals as goal

pub loop-done-preserved : goal.loop-done-preserved
loop-done-preserved g c = record {
  in_range = grind (arith, c.in_ok-count.ensures.most);
  counted = omega (arith, c.loop-done.invariant.counted);
  written = Appends-slice _ _ _ c.loop-done.invariant.written c.in_ok-count.ensures.taken;
  later = omega (arith, c.loop-done.invariant.later, c.in_ok-count.ensures.cause.later);
  quiet = λ strict. c.in_ok-count.ensures.cause.quiet strict ∙ c.loop-done.invariant.quiet strict;
  lender = c.in_ok-count.ensures.lender ∙ c.loop-done.invariant.lender;
}
