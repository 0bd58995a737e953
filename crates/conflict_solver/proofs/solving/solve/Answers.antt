use Rattle.std.proofs.Common.{None, sym, subst, arith}
use Rattle.conflict_solver.specs.Running.{IsGiving}
use Rattle.conflict_solver.proofs.Steps.{few_given, begun, decided}
use Rattle.conflict_solver.proofs.solving.solve.Goals as goal

pub give_all-requires-clause-giving : goal.give_all-requires-clause-giving
give_all-requires-clause-giving g c = subst (λ said. IsGiving c.args.formula.now 0 said c.in_ok-solver.solver.trail c.in_ok-solver.solver.watches None) (sym c.requires.unsaid)
    (c.in_ok-solver.ensures.giving c.args.formula.now (sym c.vars.ensures))

pub refute-requires-clause-few : goal.refute-requires-clause-few
refute-requires-clause-few g c = few_given c.args.formula.now (g.P.ProofSink.said c.give_all.new.sink) c.give_all.new.solver.trail c.give_all.new.solver.watches c.in_ok-conflict.field-0
    c.in_ok-conflict.ensures.formula c.in_ok-conflict.ensures.given

pub search-requires-clause-under_way : goal.search-requires-clause-under_way
search-requires-clause-under_way g c = begun c.args.formula.now c.give_all.new.solver.left (g.P.ProofSink.said c.give_all.new.sink) c.give_all.new.solver.trail c.give_all.new.solver.watches c.in_ok-conflict.field-0
    c.in_ok-conflict.ensures.given

pub returns-clause-decided : goal.returns-clause-decided
returns-clause-decided g c = λ large. decided c.args.formula.now c.give_all.new.solver.left (g.P.ProofSink.said c.search.new.sink) c.search.result c.search.ensures.answered
    (omega (arith, large, c.in_ok-conflict.ensures.left, c.in_ok-solver.ensures.left))
