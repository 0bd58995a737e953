-- Formulas: a number of variables, and clauses over them.
use Rattle.std.specs.Prelude.{ℕ, ◌<◌, ◌≤◌, ◌^◌, ℤ, nat_abs, List, length, All}

-- a formula as numbers and lists
pub record Clauses : Type 0 where
  pub vars : ℕ
  pub clauses : List (List ℤ)

-- each variable of the clause is within this number
abbrev pub IsClauseWithin : ℕ → List ℤ → Type 0
IsClauseWithin vars clause = All (λ l. nat_abs l ≤ vars) clause

-- what a formula keeps: each of its clauses is within its number of variables
pub record IsFormula (vars : ℕ) (clauses : List (List ℤ)) : Type 0 where
  pub few_vars : vars < 2 ^ 31
  pub few_clauses : length clauses < 2 ^ 60
  pub within : All (IsClauseWithin vars) clauses
