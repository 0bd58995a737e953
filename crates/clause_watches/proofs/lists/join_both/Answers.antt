use Rattle.std.proofs.Common.{rules}
use Rattle.clause_watches.proofs.Listings.{only_twice, ok_more}
use Rattle.clause_watches.proofs.lists.join_both.Goals as goal

pub returns-clause-only : goal.returns-clause-only
returns-clause-only c = only_twice c.args.lists.now.items c.join.new.lists.items c.join-2.new.lists.items c.args.number c.join.ensures.only c.join-2.ensures.only

pub returns-clause-second : goal.returns-clause-second
returns-clause-second c = ok_more c.join-2.result c.join-2.ensures.joined (λ has. search (rules, c.in-Some.is, has))
