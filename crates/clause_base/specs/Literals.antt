-- Literals: a variable, a number from 1, or its negation, the number below 0.
use Rattle.std.specs.Prelude.{◌≡◌, ℕ, ◌+◌, ◌*◌, ◌<◌, ◌^◌, ℤ, pos, negsuc, ◌<ℤ◌, nat_abs, Bool, true, ◌&&◌, nat_lt, List, length, slice_index_or}
use Rattle.std.specs.Ordering.{int_eq}
use Rattle.std.specs.List.{list_any}

-- a number other than 0 whose size fits 31 bits
abbrev pub is_literal : ℤ → Bool
is_literal z = nat_lt 0 (nat_abs z) && nat_lt (nat_abs z) (2 ^ 31)

abbrev pub IsLiteral : ℤ → Type 0
IsLiteral z = is_literal z ≡ true

-- the literals of a clause, as a set
abbrev pub is_in : List ℤ → ℤ → Bool
is_in clause l = list_any (λ m. int_eq m l) clause

-- the literal at this place of a clause, counted from 0
abbrev pub lit_at : List ℤ → ℕ → ℤ
lit_at clause place = slice_index_or clause place (pos 0)

-- Each literal is below those behind it.
pub record IsRising (clause : List ℤ) : Type 0 where
  pub rising : (j k : ℕ) (d : ℤ) → j < k → k < length clause → slice_index_or clause j d <ℤ slice_index_or clause k d

-- The place of a literal in a table of all literals: twice the variable, and one more for its negation.
abbrev pub code_of : ℤ → ℕ
code_of (pos n) = 2 * n
code_of (negsuc n) = 2 * n + 3
