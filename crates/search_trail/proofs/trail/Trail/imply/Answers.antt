use Rattle.std.proofs.Common.{◌≡◌, neg_ℤ, false, sym, subst}
use Rattle.clause_base.specs.Literals.{is_in}
use Rattle.search_trail.specs.Trails.{IsReason}
use Rattle.search_trail.proofs.Growing.{implied_by}
use Rattle.search_trail.proofs.trail.Trail.imply.Goals as goal

pub invariant_of-self : goal.invariant_of-self
invariant_of-self c =
    implied_by c.self.inside.places.vars c.put.new.places.vars c.self.inside.clauses c.self.inside.places.lits c.put.new.places.lits c.self.inside.reasons.items c.put.new.reasons.items
    c.self.inside.starts.items c.self.inside.starts.items c.put.ensures.vars c.self.invariant c.put.result c.args.lit c.args.number
    (subst (λ s. is_in s.lits c.args.lit ≡ false) (sym c.self.view_is) c.requires.unset)
    (subst (λ s. is_in s.lits (neg_ℤ c.args.lit) ≡ false) (sym c.self.view_is) c.requires.unset_negated)
    (subst (λ s. IsReason s.clauses s.lits c.args.lit c.args.number) (sym c.self.view_is) c.requires.reason)
    c.put.ensures.literal c.put.ensures.lits c.put.ensures.reasons c.put.ensures.same_lits c.put.ensures.same_reasons
