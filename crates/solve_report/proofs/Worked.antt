-- Values, verdicts and sorted forms, worked out.
use Rattle.std.proofs.Common.{◌≡◌, pos, [], ◌∷◌, true, false, refl, arith}
use Rattle.std.specs.Prelude.{codes, neg_ℤ}
use Rattle.std.specs.List.{concat}
use Rattle.clause_base.specs.ClauseText.{clause_text}
use Rattle.conflict_solver.specs.declared.verdict.Verdict.TheVariants.{Refuted, Undecided}
use Rattle.solve_report.specs.declared.ending.Ending.TheVariants.{Decided, Undecided as Unfinished}
use Rattle.solve_report.specs.Report.{IsSortedForm, true_literals, values_line, verdict_line, ending_of}

-- ---- the last line

of_two_values : true_literals (true ∷ false ∷ []) ≡ pos 1 ∷ neg_ℤ (pos 2) ∷ []
of_two_values = refl

of_no_values : true_literals [] ≡ []
of_no_values = refl

line_of_a_value : values_line (false ∷ []) ≡ concat (codes "values " ∷ clause_text (neg_ℤ (pos 1) ∷ []) ∷ codes "\n" ∷ [])
unfolding values_line
line_of_a_value = refl

line_of_a_refutation : verdict_line Refuted ≡ codes "refuted\n"
line_of_a_refutation = refl

a_refutation_decides : ending_of Refuted ≡ Decided
a_refutation_decides = refl

a_spent_budget_does_not : ending_of Undecided ≡ Unfinished
a_spent_budget_does_not = refl

-- ---- sorted forms

of_no_clauses : IsSortedForm (record { vars = 1; clauses = [] }) (record { vars = 1; clauses = [] })
of_no_clauses = record { vars = refl; clauses = tt }

another_variable : IsSortedForm (record { vars = 1; clauses = [] }) (record { vars = 2; clauses = [] }) → ⊥
another_variable form = omega (arith, form.vars)

a_dropped_clause : IsSortedForm (record { vars = 1; clauses = (pos 1 ∷ []) ∷ [] }) (record { vars = 1; clauses = [] }) → ⊥
a_dropped_clause form = form.clauses
