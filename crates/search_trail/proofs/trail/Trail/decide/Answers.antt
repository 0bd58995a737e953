use Rattle.std.proofs.Common.{◌≡◌, ◌≤◌, [], ◌∷◌, ◌++◌, neg_ℤ, nat_abs, false, length, sym, subst, ◌∙◌, ap}
use Rattle.clause_base.specs.Literals.{is_in}
use Rattle.search_trail.proofs.Growing.{decision_by}
use Rattle.search_trail.proofs.trail.Trail.decide.Goals as goal

pub invariant_of-self-2 : goal.invariant_of-self-2
invariant_of-self-2 c =
    let starts = c.self.inside.starts.items in
    let lits = c.self.inside.places.lits in
    let put : c.push.new.self.items ≡ starts ++ length lits ∷ [] =
    c.in-Ok.ensures.items ∙ ap (λ s. s ++ c.len-start.result ∷ []) c.in_ok-reserve.ensures.items ∙ ap (λ n. starts ++ n ∷ []) c.len-start.ensures in
    decision_by c.self.inside.places.vars c.put.new.places.vars c.self.inside.clauses lits c.put.new.places.lits c.self.inside.reasons.items c.put.new.reasons.items starts c.push.new.self.items
    c.put.ensures.vars c.self.invariant c.args.lit c.in_ok-put.ensures.literal
    (subst (λ s. nat_abs c.args.lit ≤ s.vars) (sym c.self.view_is) c.requires.within)
    (subst (λ s. is_in s.lits c.args.lit ≡ false) (sym c.self.view_is) c.requires.unset)
    (subst (λ s. is_in s.lits (neg_ℤ c.args.lit) ≡ false) (sym c.self.view_is) c.requires.unset_negated)
    c.in_ok-put.ensures.lits c.in_ok-put.ensures.reasons put
