-- A table that tells where each literal stands on the trail.
use Rattle.std.specs.Prelude.{◌≡◌, ℕ, ◌+◌, ◌*◌, ◌-◌, ◌<◌, ◌≤◌, ℤ, List, length, nat_eq, slice_index_or, if◌then◌else◌}
use Rattle.std.specs.List.{sum_by}
use Rattle.clause_base.specs.Literals.{code_of, lit_at}

-- the literals in their order
pub record Placed : Type 0 where
  pub vars : ℕ
  pub lits : List ℤ

-- one more than the literal's place, or 0 where it has none
abbrev pub rank : List ℕ → ℤ → ℕ
rank ranks l = slice_index_or ranks (code_of l) 0

-- 1 for a literal with no place
abbrev pub free : ℕ → ℕ
free r = if nat_eq r 0 then 1 else 0

-- the table and the list agree, and no literal is left out for want of room
pub record IsPlaced (vars : ℕ) (ranks : List ℕ) (lits : List ℤ) : Type 0 where
  pub size : length ranks ≡ vars * 2 + 2
  pub within : (l : ℤ) → 0 < rank ranks l → rank ranks l ≤ length lits
  pub found : (l : ℤ) → 0 < rank ranks l → lit_at lits (rank ranks l - 1) ≡ l
  pub ranked : (p : ℕ) → p < length lits → rank ranks (lit_at lits p) ≡ p + 1
  pub room : length lits + sum_by free ranks ≡ length ranks
