use Rattle.std.proofs.Common.{neg_ℤ, true, refl}
use Rattle.conflict_solver.proofs.Joins.{told, sole_false, given_false, given_true, given_implied, sole_reason}
use Rattle.conflict_solver.proofs.joining.give_sole.Goals as goal

pub returns-then-is_true : goal.returns-then-is_true
returns-then-is_true c = given_false c.args.trail.now c.add.new.self c.args.watches.now c.args.clause.now c.clauses.result c.in_ok-add.ensures.added c.requires.ground c.requires.head c.clauses.ensures
    (sole_false c.args.trail.now c.args.clause.now c.args.lit c.requires.sole
    (told c.args.trail.now c.add.new.self c.args.clause.now (neg_ℤ c.args.lit) c.negated.result c.is_true.result true c.in_ok-add.ensures.added c.negated.ensures c.is_true.ensures c.if-is_true.true))

pub returns-then-is_true-2 : goal.returns-then-is_true-2
returns-then-is_true-2 c = given_true c.args.trail.now c.add.new.self c.args.watches.now c.add-then-is_true-2.new.self c.args.clause.now c.args.lit c.in_ok-add.ensures.added c.in_ok-add-2.ensures.added
    c.requires.ground c.requires.head c.requires.kept c.requires.there
    (told c.args.trail.now c.add.new.self c.args.clause.now c.args.lit c.args.lit c.is_true-2.result true c.in_ok-add.ensures.added refl c.is_true-2.ensures c.if-is_true-2.true)

pub imply-requires-clause-reason : goal.imply-requires-clause-reason
imply-requires-clause-reason c = sole_reason c.args.trail.now c.add.new.self c.args.clause.now c.args.lit c.clauses-2.result c.in_ok-add.ensures.added c.clauses-2.ensures c.requires.there c.requires.sole

pub returns : goal.returns
returns c = given_implied c.args.trail.now c.add.new.self c.imply.new.self c.args.watches.now c.add-2.new.self c.args.clause.now c.args.lit c.clauses-2.result c.in_ok-add.ensures.added
    c.in_ok-imply.ensures.implied c.in_ok-add-3.ensures.added c.requires.ground c.requires.head c.requires.kept c.requires.there
