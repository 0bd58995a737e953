use Rattle.std.proofs.Common.{subst, sym}
use Rattle.clause_base.specs.Formulas.{IsClauseWithin}
use Rattle.refutation_check.proofs.Keeps.{kept_either}
use Rattle.refutation_check.proofs.checker.Checker.axiom.Goals as goal

pub invariant_of-self : goal.invariant_of-self
invariant_of-self c = kept_either c.keep.result _ c.self.inside.store _ c.self.inside.given.items _ c.self.inside.is_closed c.args.clause.now c.self.invariant
    (subst (λ k. IsClauseWithin k.vars c.args.clause.now) (sym c.self.view_is) c.requires)
    c.keep.ensures.clauses c.keep.ensures.given c.keep.ensures.same_clauses c.keep.ensures.same_given
