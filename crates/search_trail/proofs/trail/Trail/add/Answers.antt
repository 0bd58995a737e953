use Rattle.std.proofs.Common.{sym, subst}
use Rattle.clause_base.specs.Formulas.{IsClauseWithin}
use Rattle.search_trail.proofs.Growing.{clause_tried}
use Rattle.search_trail.proofs.trail.Trail.add.Goals as goal

pub invariant_of-self : goal.invariant_of-self
invariant_of-self c = clause_tried c.self.inside.places.vars c.self.inside.clauses c.add.new.self c.self.inside.places.lits c.args.lits.now c.self.inside.reasons.items c.self.inside.starts.items c.add.result
    c.self.invariant (subst (λ s. IsClauseWithin s.vars c.args.lits.now) (sym c.self.view_is) c.requires) c.add.ensures.clauses c.add.ensures.kept
