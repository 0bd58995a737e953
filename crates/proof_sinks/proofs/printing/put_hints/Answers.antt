use Rattle.std.proofs.Common.{arith}
use Rattle.std.specs.Prelude.{codes}
use Rattle.probe_io.proofs.CauseLemmas.{on_err}
use Rattle.probe_io.proofs.Texts.{AppendsFront-text}
use Rattle.probe_io.proofs.WrittenLemmas.{AppendsFront-more}
use Rattle.refutation_check.specs.LineText.{hint_text}
use Rattle.proof_sinks.proofs.Printed.{ok_items, err_items}
use Rattle.proof_sinks.proofs.printing.put_hints.Goals as goal

pub returns-in_err-put_hint-clause-front : goal.returns-in_err-put_hint-clause-front
returns-in_err-put_hint-clause-front g c =
    on_err _ (AppendsFront-more (AppendsFront-text hint_text c.args.hints.now c.loop-hint.hint-index _ c.loop-hint-test.true c.loop-hint.invariant.written c.in_err-put_hint.ensures.front) (codes "0"))

pub returns-clause-ok : goal.returns-clause-ok
returns-clause-ok g c = ok_items (g.K.Sink.written c.put_all.new.sink) _ hint_text _ _ _ (omega (arith, c.loop-hint-test.false)) c.loop-hint.invariant.written c.put_all.ensures.ok

pub returns-clause-front : goal.returns-clause-front
returns-clause-front g c = err_items (g.K.Sink.written c.put_all.new.sink) _ hint_text _ _ _ (omega (arith, c.loop-hint-test.false)) c.loop-hint.invariant.written c.put_all.ensures.front
