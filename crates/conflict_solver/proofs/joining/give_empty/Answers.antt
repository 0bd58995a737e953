use Rattle.conflict_solver.proofs.Joins.{given_empty}
use Rattle.conflict_solver.proofs.joining.give_empty.Goals as goal

pub returns : goal.returns
returns c = given_empty c.args.trail.now c.add.new.self c.args.watches.now c.args.clause.now c.clauses.result
    c.in_ok-add.ensures.added c.requires.ground c.requires.head c.clauses.ensures c.requires.empty
