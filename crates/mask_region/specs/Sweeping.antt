-- The sweep over the strips of a region, row by row.
use Rattle.std.specs.Prelude.{◌≡◌, ℕ, ◌<◌, ◌≤◌, ◌^◌, ℤ, pos, ◌≤ℤ◌, ◌<ℤ◌, neg_ℤ, Bool, true, cond, not, int_lt, ◌&&◌, ◌||◌, List, take, drop, length}
use Rattle.std.specs.List.{AllByRecursion}
use Rattle.plane_geom.specs.Cells.{is_between}
use Rattle.plane_geom.specs.Ends.{flips}
use Rattle.mask_region.specs.declared.bands.Sweep.{Sweep}
use Rattle.mask_region.specs.declared.strips.Strip.{Strip}
use Rattle.mask_region.specs.Rows.{IsRow}
use Rattle.mask_region.specs.Strips.{is_in, Banded}

-- The strip neither begins nor ends behind the row y, up to the row z.
pub record IsFree (y z : ℤ) (s : Strip) : Type 0 where
  pub now : s.y0 ≤ℤ y → z <ℤ s.y1
  pub ahead : y <ℤ s.y0 → z <ℤ s.y0

-- All strips reach above the row y.
pub record AreAhead (strips : List Strip) (y : ℤ) : Type 0 where
  pub each : AllByRecursion (λ s. y <ℤ s.y1) strips

-- All strips end below the row y.
pub record ArePassed (strips : List Strip) (y : ℤ) : Type 0 where
  pub each : AllByRecursion (λ s. s.y1 ≤ℤ y) strips

-- Up to the row `next` the rows are like the row y.
pub record IsEdge (strips : List Strip) (y next : ℤ) : Type 0 where
  pub later : y <ℤ next
  pub near : next ≤ℤ pos (2 ^ 25)
  pub free : (z : ℤ) → y ≤ℤ z → z <ℤ next → AllByRecursion (IsFree y z) strips

-- The ends are those of the row y, and of the rows behind it that are like it.
pub record IsRowOf (strips : List Strip) (y : ℤ) (ends : List ℤ) : Type 0 where
  pub row : IsRow ends
  pub cells : (x z : ℤ) → y ≤ℤ z → AllByRecursion (IsFree y z) strips → is_in strips x z ≡ flips ends x

-- No strip begins at the row y.
pub record IsSteady (strips : List Strip) (y : ℤ) : Type 0 where
  pub each : AllByRecursion (λ s. s.y0 ≡ y → ⊥) strips

-- the ends of the row below: those that were kept, where the row was read anew
abbrev pub row_below : Sweep → List ℤ
row_below sweep = cond sweep.is_new sweep.below.items sweep.row.items

-- These are the ends of the row below.
pub record IsRowBelow (sweep : Sweep) (ends : List ℤ) : Type 0 where
  pub kept : sweep.is_new ≡ true → IsRow sweep.below.items
  pub same : row_below sweep ≡ ends

-- The strips up to index r end below the row y, and the others reach above it.
pub record IsSplitAt (strips : List Strip) (y : ℤ) (r : ℕ) : Type 0 where
  pub in_range : r ≤ length strips
  pub passed : ArePassed (take r strips) y
  pub ahead : AreAhead (drop r strips) y

-- the cells of the strips, and of a band from row `from` up to row y that is held back
abbrev pub is_shown : List Strip → List ℤ → ℤ → ℤ → ℤ → ℤ → Bool
is_shown out held from y x z = is_in out x z || (flips held x && is_between from y z)

-- The strips and the band are such that the band can be put behind the strips.
pub record IsShown (out : List Strip) (held : List ℤ) (from y : ℤ) : Type 0 where
  pub banded : Banded out
  pub passed : ArePassed out from
  pub row : IsRow held
  pub low : 0 < length held → neg_ℤ (pos (2 ^ 25)) ≤ℤ from
  pub order : from ≤ℤ y

-- In the order of the strips the cell comes behind this one: the strip ends below the cell's row, or it begins at
-- that row or below and ends left of the cell.
abbrev pub is_before_cell : ℤ → ℤ → Strip → Bool
is_before_cell x y s = not (int_lt y s.y1) || (not (int_lt y s.y0) && not (int_lt x s.x1))
