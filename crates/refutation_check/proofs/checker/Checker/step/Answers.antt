use Rattle.std.proofs.Common.{subst, sym, ◌∙◌}
use Rattle.clause_base.specs.Formulas.{IsClauseWithin}
use Rattle.refutation_check.specs.Marking.{is_marked}
use Rattle.refutation_check.proofs.Keeps.{kept_step}
use Rattle.refutation_check.proofs.checker.Checker.step.Goals as goal

pub invariant_of-self-2 : goal.invariant_of-self-2
invariant_of-self-2 c = kept_step c.keep.result c.self.inside.marks.vars _ c.self.inside.store _ c.self.inside.given.items _ c.self.inside.is_closed _ c.args.clause.now c.args.hints.now (is_marked c.mark_clause.new.marks) c.self.invariant
    (subst (λ k. IsClauseWithin k.vars c.args.clause.now) (sym c.self.view_is) c.requires)
    c.in_ok-follow.ensures.runs c.mark_clause.ensures.same (c.follow.ensures.vars ∙ c.mark_clause.ensures.vars) c.is_closing-self-inside.ensures (sym c.is_err.ensures.value ∙ c.if-is_err.false)
    c.keep.ensures.clauses c.keep.ensures.given
