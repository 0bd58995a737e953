-- Clauses that list no literal twice.
use Rattle.std.specs.Prelude.{◌≡◌, ℕ, ◌<◌, ℤ, true, List, length, All}
use Rattle.clause_base.specs.Literals.{lit_at}
use Rattle.clause_base.specs.FormulaText.{is_literal_of}
use Rattle.clause_base.specs.Novelty.{IsApart}

-- no literal twice, and none beside its negation
pub record IsOnce (clause : List ℤ) : Type 0 where
  pub once : (p q : ℕ) → p < length clause → q < length clause → lit_at clause p ≡ lit_at clause q → p ≡ q
  pub apart : IsApart clause

-- The clause lists each literal once and none beside its negation, all of them of the variables from 1 to `vars`.
pub record IsPlain (vars : ℕ) (clause : List ℤ) : Type 0 where
  pub once : IsOnce clause
  pub literals : All (λ l. is_literal_of vars l ≡ true) clause
