use Rattle.std.proofs.Common.{◌<◌, sym, subst}
use Rattle.refutation_check.specs.Following.{numbered}
use Rattle.search_trail.specs.Walking.{IsWalk}
use Rattle.search_trail.proofs.Walks.{AreMarked, resolves, seen_read}
use Rattle.search_trail.proofs.walk.step.Goals as goal

pub returns-in_ok-push : goal.returns-in_ok-push
returns-in_ok-push c =
    let s = c.args.trail.now in
    let walk = c.args.walk.now in
    let marked : AreMarked s.lits c.mark.new.seen.items c.args.place (numbered s.clauses c.in-Some.number) = subst (λ cl. AreMarked s.lits c.mark.new.seen.items c.args.place cl) c.clause.ensures.same c.mark.ensures.marked in
    subst (λ hs. IsWalk s c.mark.new.seen.items c.args.place walk.kept.items hs) (sym c.in_ok-push.ensures.items)
    (resolves s c.resolvent.ensures.search.once walk.seen.items c.args.place walk.kept.items walk.hints.items c.requires.walk c.mark.new.seen.items c.in-Some.number c.requires.inside
    (seen_read walk.seen.items c.args.place c.index.result.now (subst (λ n. c.args.place < n) (sym c.requires.walk.size) c.requires.inside) c.index.ensures c.if-not-index.false) c.in-Some.ensures.some c.mark.ensures.size c.mark.ensures.grown marked)
