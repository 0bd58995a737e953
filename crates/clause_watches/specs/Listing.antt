-- For each literal the clauses that are watched there. Clauses count from 1.
use Rattle.std.specs.Prelude.{◌≡◌, ◌⊎◌, ℕ, ◌-◌, ◌<◌, ℤ, Option, Some, None, List, [], slice_index_or, Contains}
use Rattle.clause_base.specs.Literals.{code_of}

-- the two literals at which the clause of this number is watched, if any
abbrev pub pair_of : List (Option (ℤ × ℤ)) → ℕ → Option (ℤ × ℤ)
pair_of pairs number = slice_index_or pairs (number - 1) None

-- the numbers in the list of this literal
abbrev pub list_of : List (List ℕ) → ℤ → List ℕ
list_of lists l = slice_index_or lists (code_of l) []

-- each watched clause is in the lists of both its literals, and no list has the number 0
pub record AreListed (pairs : List (Option (ℤ × ℤ))) (lists : List (List ℕ)) : Type 0 where
  pub first : (number : ℕ) (a b : ℤ) → 0 < number → pair_of pairs number ≡ Some (a, b) → Contains (list_of lists a) number
  pub second : (number : ℕ) (a b : ℤ) → 0 < number → pair_of pairs number ≡ Some (a, b) → Contains (list_of lists b) number
  pub some : (l : ℤ) (number : ℕ) → Contains (list_of lists l) number → 0 < number

-- the watches and their lists
pub record Listed : Type 0 where
  pub vars : ℕ
  pub pairs : List (Option (ℤ × ℤ))
  pub lists : List (List ℕ)

-- the clause is watched at this literal and at the other
abbrev pub IsOther : Option (ℤ × ℤ) → ℤ → ℤ → Type 0
IsOther pair lit other = (pair ≡ Some (lit, other)) ⊎ (pair ≡ Some (other, lit))
