-- A set of literals as a table of stamps.
use Rattle.std.specs.Prelude.{◌≡◌, ℕ, ◌+◌, ◌*◌, ◌<◌, ◌≤◌, ℤ, Bool, nat_eq, List, length, slice_index_or, All}
use Rattle.clause_base.specs.Literals.{code_of}

-- a greatest variable, a stamp for each literal, and the current one
pub record Stamps : Type 0 where
  pub vars : ℕ
  pub stamps : List ℕ
  pub stamp : ℕ

-- the literals that have the current stamp
abbrev pub is_marked : Stamps → ℤ → Bool
is_marked table l = nat_eq (slice_index_or table.stamps (code_of l) 0) table.stamp

-- the table has a place for each literal, and no stamp is above the current one
pub record IsTable (vars : ℕ) (stamps : List ℕ) (stamp : ℕ) : Type 0 where
  pub size : length stamps ≡ vars * 2 + 2
  pub some : 0 < stamp
  pub most : All (λ s. s ≤ stamp) stamps
