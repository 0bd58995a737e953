use Rattle.probe_io.proofs.CauseLemmas.{on_err}
use Rattle.conflict_solver.proofs.Steps.{given_more, given_torn}
use Rattle.conflict_solver.proofs.solving.give_all.Goals as goal

pub returns-in_err-say_given-clause-front : goal.returns-in_err-say_given-clause-front
returns-in_err-say_given-clause-front g c = on_err c.from_residual.result
    (given_torn c.args.formula.now c.clauses-clause-items.result.now c.loop-clause.clause-index (g.P.ProofSink.said c.loop-clause.sink) (g.P.ProofSink.said c.say_given.new.sink) c.clause-item.result c.as_slice.result.now
    c.clauses-clause-items.ensures.same c.loop-clause-test.true c.clause-item.is c.as_slice.ensures c.loop-clause.invariant.giving.given c.in_err-say_given.ensures.one)

pub returns-in_err-conflict-clause-front : goal.returns-in_err-conflict-clause-front
returns-in_err-conflict-clause-front g c = on_err c.from_residual-in_err-conflict.result
    (given_more c.args.formula.now c.clauses-clause-items.result.now c.loop-clause.clause-index (g.P.ProofSink.said c.loop-clause.sink) (g.P.ProofSink.said c.say_given.new.sink) c.clause-item.result c.as_slice.result.now
    c.clauses-clause-items.ensures.same c.loop-clause-test.true c.clause-item.is c.as_slice.ensures c.loop-clause.invariant.giving.given c.in_ok-say_given.ensures.said)
