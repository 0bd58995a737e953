use Rattle.std.proofs.Common.{◌≡◌, [], ◌∷◌, ◌++◌, length, sym, ◌∙◌, ap, subst}
use Rattle.refutation_check.specs.Following.{numbered}
use Rattle.search_trail.specs.Walking.{IsWalk}
use Rattle.search_trail.proofs.Walks.{AreMarked, begins}
use Rattle.search_trail.proofs.walk.begin.Goals as goal

pub returns : goal.returns
returns c =
    let s = c.args.trail.now in
    let seen = c.mark.new.seen.items in
    let hints : c.push.new.self.items ≡ c.args.conflict ∷ [] = c.in_ok-push.ensures.items ∙ ap (λ hs. hs ++ c.args.conflict ∷ []) c.new-hints.ensures.items in
    let marked : AreMarked s.lits seen (length s.lits) (numbered s.clauses c.args.conflict) =
    subst (λ n. AreMarked s.lits seen n (numbered s.clauses c.args.conflict)) (ap length c.lits-size.ensures.same) (subst (λ cl. AreMarked s.lits seen (length c.lits-size.result.now) cl) c.clause.ensures.same c.mark.ensures.marked) in
    let size : length seen ≡ length s.lits = c.mark.ensures.size ∙ sym c.in_ok-seen.seen.ok.0 ∙ c.in_ok-seen.ensures.len ∙ ap length c.lits-size.ensures.same in
    subst (λ ks. IsWalk s seen (length s.lits) ks c.push.new.self.items) (sym c.new.ensures.items) (subst (λ hs. IsWalk s seen (length s.lits) [] hs) (sym hints)
    (begins s c.lits-size.ensures.search.once seen c.args.conflict size c.requires.known c.requires.failed marked))
