use Rattle.conflict_solver.proofs.Joins.{given_pair}
use Rattle.conflict_solver.proofs.joining.give_pair.Goals as goal

pub returns : goal.returns
returns c = given_pair c.args.trail.now c.add.new.self c.args.watches.now c.add-2.new.self c.args.clause.now c.args.first c.args.second
    c.in_ok-add.ensures.added c.in_ok-add-2.ensures.added c.requires.ground c.requires.head c.requires.kept c.requires.first c.requires.second c.requires.differ
