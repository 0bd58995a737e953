use Rattle.conflict_solver.specs.Answering.{IsAnswered}
use Rattle.conflict_solver.proofs.Steps.{few_said, found_is}
use Rattle.conflict_solver.proofs.solving.search.Goals as goal

pub turn-requires-clause-few : goal.turn-requires-clause-few
turn-requires-clause-few g c = few_said c.args._formula.now c.args.solver.now.left c.loop-verdict.solver.left (g.P.ProofSink.said c.loop-verdict.sink) c.loop-verdict.solver.trail
    c.requires.formula c.requires.few_lines c.loop-verdict.invariant.under_way

pub returns-in-Some-clause-answered : goal.returns-in-Some-clause-answered
returns-in-Some-clause-answered g c = found_is (IsAnswered c.args._formula.now c.args.solver.now.left (g.P.ProofSink.said c.turn.new.sink)) c.in_ok-verdict.field-0 c.in-Some.verdict c.in-Some.is
    (c.in_ok-verdict.ensures.answered c.args._formula.now c.args.solver.now.left c.loop-verdict.invariant.under_way)
