use Rattle.conflict_solver.proofs.Verdicts.{exhausted}
use Rattle.conflict_solver.proofs.Steps.{decided_kept, settled_found, grown_open, done_when_none}
use Rattle.conflict_solver.proofs.solving.turn.Goals as goal

pub returns-in_default-clause-kept : goal.returns-in_default-clause-kept
returns-in_default-clause-kept g c = decided_kept c.propagate.new.trail c.decide.new.solver.trail c.propagate.new.self c.decide.new.solver.watches c.in_ok-decide.field-0
    c.is_ground-is_ground.ensures.search c.in_ok-conflict.ensures.kept (done_when_none c.in_ok-conflict.conflict c.in_default.is c.in_ok-conflict.ensures.done) c.in_ok-decide.ensures.watches c.in_ok-decide.ensures.decided

pub returns-in_default-clause-answered : goal.returns-in_default-clause-answered
returns-in_default-clause-answered g c = λ formula budget run. settled_found formula budget c.args.solver.now.left (g.P.ProofSink.said c.args.sink.now) c.args.solver.now.trail c.propagate.new.trail c.propagate.new.self
    c.in_ok-decide.field-0 run c.in_ok-conflict.ensures.grown.vars c.in_ok-conflict.ensures.grown.clauses c.is_ground-is_ground.ensures.search c.in_ok-conflict.ensures.kept
    (done_when_none c.in_ok-conflict.conflict c.in_default.is c.in_ok-conflict.ensures.done) c.in_ok-decide.ensures.verdict

pub returns-then-solver-eq0-clause-answered : goal.returns-then-solver-eq0-clause-answered
returns-then-solver-eq0-clause-answered g c = λ formula budget run. exhausted formula budget c.args.solver.now.left (g.P.ProofSink.said c.args.sink.now) c.args.solver.now.trail run c.if-solver-eq0.true
    (grown_open c.args.solver.now.trail c.propagate.new.trail c.propagate.new.self c.in_ok-conflict.ensures.grown c.is_ground-is_ground.ensures.search c.in_ok-conflict.ensures.kept
    (c.is_ground-is_ground.ensures.no c.if-is_ground.false))
