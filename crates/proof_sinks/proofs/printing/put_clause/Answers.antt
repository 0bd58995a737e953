use Rattle.std.proofs.Common.{arith}
use Rattle.probe_io.proofs.CauseLemmas.{on_err}
use Rattle.clause_base.specs.ClauseText.{literal_text}
use Rattle.proof_sinks.proofs.Printed.{front_item, ok_items, err_items}
use Rattle.proof_sinks.proofs.printing.put_clause.Goals as goal

pub returns-in_err-put_literal-clause-front : goal.returns-in_err-put_literal-clause-front
returns-in_err-put_literal-clause-front g c =
    on_err _ (front_item literal_text _ _ _ _ c.loop-lit-test.true c.lit-item.is c.loop-lit.invariant.written c.in_err-put_literal.ensures.front)

pub returns-clause-ok : goal.returns-clause-ok
returns-clause-ok g c = ok_items (g.K.Sink.written c.put_all.new.sink) _ literal_text _ _ _ (omega (arith, c.loop-lit-test.false)) c.loop-lit.invariant.written c.put_all.ensures.ok

pub returns-clause-front : goal.returns-clause-front
returns-clause-front g c = err_items (g.K.Sink.written c.put_all.new.sink) _ literal_text _ _ _ (omega (arith, c.loop-lit-test.false)) c.loop-lit.invariant.written c.put_all.ensures.front
