use Rattle.std.proofs.Common.{subst, sym, ap, ◌∙◌, OnOk}
use Rattle.clause_base.specs.Formulas.{IsClauseWithin}
use Rattle.refutation_check.specs.Following.{Follows}
use Rattle.proof_sinks.specs.Lines.{clauses_of}
use Rattle.proof_sinks.proofs.Checked.{checked_derived, clauses_are}
use Rattle.proof_sinks.proofs.check.StepCheckProofSink.derived.Goals as goal

pub invariant_of-self : goal.invariant_of-self
invariant_of-self c = checked_derived c.take_derived-taken.result c.self.inside.checker _ c.self.inside.lines.items _ c.args.clause.now c.args.hints.now c.self.invariant
    c.take_derived-taken.ensures.within c.take_derived-taken.ensures.follows c.take_derived-taken.ensures.checker c.take_derived-taken.ensures.lines c.take_derived-taken.ensures.checker_stays c.take_derived-taken.ensures.lines_stay

pub returns-clause-follows : goal.returns-clause-follows
returns-clause-follows c = subst (λ cs. OnOk c.take_derived-taken.result (Follows cs c.args.clause.now c.args.hints.now))
    (clauses_are c.self.inside.checker c.self.inside.lines.items c.self.invariant ∙ ap (λ k. clauses_of k.said) c.self.view_is) c.take_derived-taken.ensures.follows

pub returns-clause-refused : goal.returns-clause-refused
returns-clause-refused c = λ failed within follows. c.take_derived-taken.ensures.refused failed
    (subst (λ k. IsClauseWithin k.checker.vars c.args.clause.now) (sym c.self.view_is) within)
    (subst (λ cs. Follows cs c.args.clause.now c.args.hints.now)
    (sym (clauses_are c.self.inside.checker c.self.inside.lines.items c.self.invariant ∙ ap (λ k. clauses_of k.said) c.self.view_is)) follows)
