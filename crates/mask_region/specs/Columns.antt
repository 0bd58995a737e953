-- The columns that strips reach into.
use Rattle.std.specs.Prelude.{ℤ, ◌≤ℤ◌, Bool, ◌&&◌, int_lt}
use Rattle.mask_region.specs.declared.strips.Strip.{Strip}

-- whether the strip has a cell in the columns from `left` up to `right`
abbrev pub reaches : ℤ → ℤ → Strip → Bool
reaches left right s = int_lt s.x0 right && int_lt left s.x1

-- All cells of the strip are in these columns.
pub record IsInColumns (left right : ℤ) (s : Strip) : Type 0 where
  pub left_of : left ≤ℤ s.x0
  pub right_of : s.x1 ≤ℤ right
