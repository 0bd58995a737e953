use Rattle.clause_watches.proofs.Listings.{code_inside, leave_stay, leave_none}
use Rattle.clause_watches.proofs.lists.leave.Goals as goal

pub returns-clause-stay : goal.returns-clause-stay
returns-clause-stay c = leave_stay c.args.lists.now.items c.args.lit c.code.result c.index_mut.result.now c.drop_at.new.self c.code.ensures.same (code_inside c.args.lists.now.items c.args.lit c.args.index c.requires) c.index_mut.ensures.value c.args.index c.drop_at.ensures.others

pub returns-clause-none : goal.returns-clause-none
returns-clause-none c = leave_none c.args.lists.now.items c.args.lit c.code.result c.index_mut.result.now c.drop_at.new.self c.code.ensures.same (code_inside c.args.lists.now.items c.args.lit c.args.index c.requires) c.index_mut.ensures.value c.drop_at.ensures.none
