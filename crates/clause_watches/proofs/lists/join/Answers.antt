use Rattle.clause_watches.proofs.Listings.{join_kept, join_only}
use Rattle.clause_watches.proofs.lists.join.Goals as goal

pub returns-clause-kept : goal.returns-clause-kept
returns-clause-kept c = join_kept c.args.lists.now.items c.args.lit c.code.result c.index_mut.result.now c.push.new.self c.code.ensures.same c.requires c.index_mut.ensures.value c.push.result c.args.number c.push.ensures.list c.push.ensures.kept

pub returns-clause-only : goal.returns-clause-only
returns-clause-only c = join_only c.args.lists.now.items c.args.lit c.code.result c.index_mut.result.now c.push.new.self c.code.ensures.same c.requires c.index_mut.ensures.value c.push.result c.args.number c.push.ensures.list c.push.ensures.kept
