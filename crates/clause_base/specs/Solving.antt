-- Which literals values make true, and which clauses and formulas they solve.
use Rattle.std.specs.Prelude.{◌≡◌, zero, suc, ℤ, pos, negsuc, Bool, true, false, not, List, slice_index_or, Any, All}

-- The variable n has the value n - 1 of the list, counted from 0.
abbrev pub is_true_under : List Bool → ℤ → Bool
is_true_under values (pos zero) = false
is_true_under values (pos (suc n)) = slice_index_or values n false
is_true_under values (negsuc n) = not (slice_index_or values n true)

-- some literal of the clause is true
abbrev pub IsTrueUnder : (ℤ → Bool) → List ℤ → Type 0
IsTrueUnder holds clause = Any (λ l. holds l ≡ true) clause

-- each clause has a true literal
abbrev pub Solves : (ℤ → Bool) → List (List ℤ) → Type 0
Solves holds clauses = All (IsTrueUnder holds) clauses
