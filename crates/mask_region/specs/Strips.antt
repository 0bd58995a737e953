-- Strips, and the cells of a list of strips.
use Rattle.std.specs.Prelude.{◌≡◌, ℕ, ◌^◌, ℤ, pos, neg_ℤ, ◌≤ℤ◌, ◌<ℤ◌, Bool, true, List, [], ◌∷◌, slice_get, Some}
use Rattle.std.specs.List.{All, AllByRecursion, list_any}
use Rattle.plane_geom.specs.Bounds.{IsWithin}
use Rattle.plane_geom.specs.declared.shapes.Rect.{Rect}
use Rattle.plane_geom.specs.Cells.{is_in_rect}
use Rattle.mask_region.specs.declared.strips.Strip.{Strip}

-- ---- cells

-- the rectangle of a strip
abbrev pub rect_of : Strip → Rect
rect_of s = record { x0 = s.x0; y0 = s.y0; x1 = s.x1; y1 = s.y1 }

-- the cells of a strip
abbrev pub is_in_strip : Strip → ℤ → ℤ → Bool
is_in_strip s x y = is_in_rect (rect_of s) x y

-- the cells of all strips of a list
abbrev pub is_in : List Strip → ℤ → ℤ → Bool
is_in strips x y = list_any (λ s. is_in_strip s x y) strips

-- The strip with this index has the cell.
pub record HasCellAt (strips : List Strip) (x y : ℤ) (k : ℕ) : Type 0 where
  pub strip : Strip
  pub at : slice_get strips k ≡ Some strip
  pub has : is_in_strip strip x y ≡ true

-- ---- bands

-- The strip is not empty, and lies within 2^25 of 0.
pub record IsStrip (s : Strip) : Type 0 where
  pub wide : s.x0 <ℤ s.x1
  pub high : s.y0 <ℤ s.y1
  pub left : neg_ℤ (pos (2 ^ 25)) ≤ℤ s.x0
  pub below : neg_ℤ (pos (2 ^ 25)) ≤ℤ s.y0
  pub right : s.x1 ≤ℤ pos (2 ^ 25)
  pub above : s.y1 ≤ℤ pos (2 ^ 25)

-- The strip t lies in the band of the strip s, further right and with a gap, or in a later band. Two bands have no
-- row in common.
pub record Follows (s t : Strip) : Type 0 where
  pub later : s.y0 ≤ℤ t.y0
  pub apart : s.y0 <ℤ t.y0 → s.y1 ≤ℤ t.y0
  pub band : s.y0 ≡ t.y0 → s.y1 ≡ t.y1
  pub right : s.y0 ≡ t.y0 → s.x1 <ℤ t.x0

-- Each is a strip, and of any two the later follows the earlier.
abbrev pub IsBanded : List Strip → Type 0
IsBanded [] = Unit {0}
IsBanded (s ∷ ts) = IsStrip s × AllByRecursion (Follows s) ts × IsBanded ts

pub record Banded (strips : List Strip) : Type 0 where
  pub each : IsBanded strips

-- ---- bounds

-- No coordinate of the strip is further from 0.
pub record IsStripWithin (bound : ℕ) (s : Strip) : Type 0 where
  pub x0 : IsWithin bound s.x0
  pub y0 : IsWithin bound s.y0
  pub x1 : IsWithin bound s.x1
  pub y1 : IsWithin bound s.y1

pub record AreStripsWithin (bound : ℕ) (strips : List Strip) : Type 0 where
  pub each : All (IsStripWithin bound) strips

-- All four sides of the cell are within the bound.
pub record IsCellWithin (bound : ℕ) (x y : ℤ) : Type 0 where
  pub left : neg_ℤ (pos bound) ≤ℤ x
  pub right : x <ℤ pos bound
  pub below : neg_ℤ (pos bound) ≤ℤ y
  pub above : y <ℤ pos bound

-- ---- masks

-- Regions in three lists: one region for each wire, cut and channel line of a layer map.
pub record MaskLists : Type 0 where
  pub wires : List (List Strip)
  pub cuts : List (List Strip)
  pub channels : List (List Strip)

-- No coordinate of the regions is further from 0.
pub record AreRegionsWithin (bound : ℕ) (regions : List (List Strip)) : Type 0 where
  pub each : All (AreStripsWithin bound) regions

pub record AreMasksWithin (bound : ℕ) (masks : MaskLists) : Type 0 where
  pub wires : AreRegionsWithin bound masks.wires
  pub cuts : AreRegionsWithin bound masks.cuts
  pub channels : AreRegionsWithin bound masks.channels
