-- The sides of defects, and their weights.
use Rattle.std.specs.Prelude.{ℕ, ◌+◌, ◌<◌, ◌≤◌, List, length, slice_index_or}
use Rattle.std.specs.List.{All}
use Rattle.defect_sweep.specs.declared.sides.SideWeight.{SideWeight}

-- The square has 1 to 65,536 cells a side, and a placement counts 1 to 30 times.
pub record IsSide (s : SideWeight) : Type 0 where
  pub some : 0 < s.cells
  pub small : s.cells ≤ 65536
  pub counts : 0 < s.weight
  pub light : s.weight ≤ 30

abbrev pub no_side : SideWeight
no_side = record { cells = 0; weight = 0 }

abbrev pub side_at : List SideWeight → ℕ → SideWeight
side_at sides k = slice_index_or sides k no_side

-- Each side is greater than the one before it.
pub record DoRise (sides : List SideWeight) : Type 0 where
  pub each : (k : ℕ) → k + 1 < length sides → (side_at sides k).cells < (side_at sides (k + 1)).cells

-- From 1 to 8 sides, each greater than the one before it.
pub record AreSides (sides : List SideWeight) : Type 0 where
  pub some : 0 < length sides
  pub few : length sides ≤ 8
  pub each : All IsSide sides
  pub rising : DoRise sides
