-- What the readers that make trees give.
use Rattle.std.specs.Prelude.{◌≡◌, ℕ, List, codes, Option, Some, None, nat_le, if◌then◌else◌}
use Rattle.layer_map.specs.Truth.{Formula}
use Rattle.layer_map.specs.Readers.{behind}

-- the expression and the words behind it, if there is room for its depth
abbrev pub built : ℕ → ℕ → Formula → List (List ℕ) → Option (Formula × List (List ℕ))
built depth room formula tail = if nat_le depth room then Some (formula, tail) else None

-- The words go on with no more factors.
pub record EndsProduct (tail : List (List ℕ)) : Type 0 where
  pub factors : behind (codes "*") tail ≡ None

-- They go on with no more factors, and no more products.
pub record EndsSum (tail : List (List ℕ)) : Type 0 where
  pub factors : behind (codes "*") tail ≡ None
  pub products : behind (codes "+") tail ≡ None
