use Rattle.std.proofs.Common.{◌≡◌, ◌+◌, neg_ℤ, false, [], ◌∷◌, ◌++◌, length, sym, ap, ◌∙◌, subst}
use Rattle.std.proofs.lemmas.Result.{on_ok_weaker}
use Rattle.clause_base.specs.Literals.{is_in, lit_at}
use Rattle.clause_base.specs.Formulas.{IsClauseWithin}
use Rattle.search_trail.specs.Trails.{IsReason, with_implied, with_clause}
use Rattle.search_trail.proofs.Jumps.{reason, unset}
use Rattle.conflict_solver.proofs.Joins.{small, out_negated, learnt_joined, learnt_kept, on_both}
use Rattle.conflict_solver.proofs.joining.learn.Goals as goal

pub join_learnt-requires-clause-some : goal.join_learnt-requires-clause-some
join_learnt-requires-clause-some c = c.requires.asserting.some

pub join_learnt-requires-clause-within : goal.join_learnt-requires-clause-within
join_learnt-requires-clause-within c = subst (λ t. IsClauseWithin t.vars c.args.lits.now) (sym c.back_to.ensures.trail)
    (small c.args.trail.now c.args.lits.now c.args.level c.back_to.ensures.search c.requires.learnt c.requires.asserting c.requires.jump c.requires.above)

pub join_learnt-requires-clause-vars : goal.join_learnt-requires-clause-vars
join_learnt-requires-clause-vars c = c.back_to.ensures.kept.vars ∙ sym (ap (λ t. t.vars) c.back_to.ensures.trail)

pub join_learnt-requires-clause-reason : goal.join_learnt-requires-clause-reason
join_learnt-requires-clause-reason c = subst (λ t. IsReason (t.clauses ++ c.args.lits.now ∷ []) t.lits (lit_at c.args.lits.now 0) (length t.clauses + 1)) (sym c.back_to.ensures.trail)
    (reason c.args.trail.now c.args.lits.now c.args.level c.requires.asserting c.requires.jump)

pub join_learnt-requires-clause-unset : goal.join_learnt-requires-clause-unset
join_learnt-requires-clause-unset c = subst (λ t. is_in t.lits (lit_at c.args.lits.now 0) ≡ false) (sym c.back_to.ensures.trail)
    (unset c.args.trail.now c.args.lits.now c.args.level c.back_to.ensures.search c.requires.learnt c.requires.asserting)

pub join_learnt-requires-clause-unset_negated : goal.join_learnt-requires-clause-unset_negated
join_learnt-requires-clause-unset_negated c = subst (λ t. is_in t.lits (neg_ℤ (lit_at c.args.lits.now 0)) ≡ false) (sym c.back_to.ensures.trail)
    (out_negated c.args.trail.now c.args.lits.now c.args.level c.back_to.ensures.search c.requires.learnt c.requires.asserting c.requires.jump c.requires.above)

pub returns-clause-joined : goal.returns-clause-joined
returns-clause-joined c = on_ok_weaker c.join_learnt.result (learnt_joined c.args.trail.now c.back_to.new.trail c.join_learnt.new.trail c.args.lits.now (lit_at c.args.lits.now 0) c.args.level
    (length c.back_to.new.trail.clauses + 1) c.back_to.ensures.trail) c.join_learnt.ensures.trail

pub returns-clause-kept : goal.returns-clause-kept
returns-clause-kept c = on_both c.join_learnt.result
    (λ is watched. learnt_kept c.args.trail.now c.args.lits.now c.args.level c.back_to.ensures.search c.requires.learnt c.requires.asserting c.requires.jump c.requires.above
    c.join_learnt.new.trail c.back_to.new.watches c.join_learnt.new.watches c.back_to.ensures.kept
    (is ∙ ap (λ t. with_implied (with_clause t c.args.lits.now) (lit_at c.args.lits.now 0) (length t.clauses + 1)) c.back_to.ensures.trail) watched)
    c.join_learnt.ensures.trail c.join_learnt.ensures.watches
