-- The command `solve FORMULA BUDGET`.
use Rattle.std.specs.Prelude.{ℕ, ◌<◌, ◌^◌, List, [], ◌∷◌}
use Rattle.clause_base.specs.Formulas.{Clauses}
use Rattle.solve_report.specs.declared.ending.Ending.TheVariants.{Decided, Undecided}
use Rattle.solve_report.specs.Report.{IsSolveReport, IsReportSoFar, IsReportOrSoFar}
use Rattle.command_base.specs.declared.endings.Ending.{Ending}
use Rattle.command_base.specs.declared.endings.Ending.TheVariants.{Whole, Undecided as Unfinished, No}
use Rattle.command_base.specs.Stages.{Stage, then, just, refused}
use Rattle.command_base.specs.Jobs.{Texts, Job, job}
use Rattle.command_refusals.specs.declared.refusal.WordRefusal.TheVariants.{Usage}
use Rattle.command_refusals.specs.declared.refusal.Refusal.{Refusal}
use Rattle.command_refusals.specs.declared.refusal.Refusal.TheVariants.{Words}
use Rattle.command_inputs.specs.Stages.{budget_stage, formula_stage}

-- what a search is made on: the formula, and the most lines that are derived
pub record Search : Type 0 where
  pub formula : Clauses
  pub budget : ℕ

-- the word BUDGET is judged first, then the formula
abbrev pub search_stage : List ℕ → List ℕ → Stage Refusal Search
search_stage formula word =
    then (budget_stage word) (λ budget. then (formula_stage formula) (λ clauses. just (record { formula = clauses; budget = budget })))

-- the words after `solve` are FORMULA and BUDGET
abbrev pub solve_stage : List (List ℕ) → Stage Refusal Search
solve_stage (formula ∷ word ∷ []) = search_stage formula word
solve_stage _ = refused (Words Usage)

-- A whole report that decides; or one of a search that came to its budget, where 3 to the power of the number of variables
-- is over the budget.
abbrev pub IsWhole : Search → Ending → List ℕ → Type 0
IsWhole search Whole text = IsSolveReport search.formula search.budget Decided text
IsWhole search Unfinished text = (search.budget < 3 ^ search.formula.vars) × IsSolveReport search.formula search.budget Undecided text
IsWhole search No text = ⊥

-- the reports of a search, and those so far
abbrev pub solve_texts : Texts Search
solve_texts = record {
  whole = IsWhole;
  begun = λ search text. IsReportOrSoFar search.formula search.budget text;
  halted = λ search text. IsReportSoFar search.formula search.budget text;
}

-- the job of the words after `solve`
abbrev pub solve_job : List (List ℕ) → Job Refusal
solve_job words = job (solve_stage words) solve_texts
