-- Slabs of a polygon: rows that the same edges span.
use Rattle.std.specs.Prelude.{◌≡◌, ℕ, ◌<◌, ◌≤◌, ◌^◌, ℤ, pos, ◌≤ℤ◌, ◌<ℤ◌, false, cond, not, int_lt, ◌&&◌, ◌||◌, Option, Some, None, List, length, take, count_by, slice_index_or}
use Rattle.std.specs.List.{All, AllByRecursion}
use Rattle.plane_geom.specs.declared.shapes.Point.{Point}
use Rattle.plane_geom.specs.declared.shapes.Rect.{Rect}
use Rattle.plane_geom.specs.Cells.{is_between, is_in_rects}
use Rattle.plane_geom.specs.Ends.{is_odd, flips}
use Rattle.plane_geom.specs.Covering.{is_vertical, spans, is_crossed, IsRect, IsRectIn, HoldsAround}

-- ---- the next row of a corner

-- of `next` and the row, the lesser that is above y
abbrev pub nearest : ℤ → ℤ → Option ℤ → Option ℤ
nearest y row None = cond (int_lt y row) (Some row) None
nearest y row (Some n) = cond (int_lt y row) (Some (cond (int_lt row n) row n)) (Some n)

-- The corner is not above y, or it is not below n.
pub record IsOutside (y n : ℤ) (p : Point) : Type 0 where
  pub above : y <ℤ p.y → n ≤ℤ p.y

-- No corner of those taken so far lies between the rows y and n, and n is no higher than some corner.
pub record IsNextRow (points taken : List Point) (y n : ℤ) : Type 0 where
  pub later : y <ℤ n
  pub near : n ≤ℤ pos (2 ^ 24)
  pub each : AllByRecursion (IsOutside y n) taken
  pub reached : (r : Rect) → All (HoldsAround r (pos 0)) points → n ≤ℤ r.y1

-- where there is no row: no corner is above y
abbrev pub IsNextOf : List Point → List Point → ℤ → Option ℤ → Type 0
IsNextOf points taken y None = AllByRecursion (λ p. p.y ≤ℤ y) taken
IsNextOf points taken y (Some n) = IsNextRow points taken y n

-- The answer is the lowest row of a corner above y, or none where no corner is above it.
pub record IsNextCornerRow (points taken : List Point) (y : ℤ) (next : Option ℤ) : Type 0 where
  pub is : IsNextOf points taken y next

-- ---- the edges that a row crosses

-- how many of the ends lie at or before x; `flips` says whether it is an odd number
abbrev pub count_up_to : ℤ → List ℤ → ℕ
count_up_to x ends = count_by (λ t. not (int_lt x t)) ends

-- The x lies within the rectangle.
pub record IsAcross (r : Rect) (x : ℤ) : Type 0 where
  pub left : r.x0 ≤ℤ x
  pub right : x ≤ℤ r.x1

-- The ends are the places where the row y crosses edges, and lie within each rectangle round the corners.
pub record AreCrossings (points : List Point) (edges : List (Point × Point)) (y : ℤ) (ends : List ℤ) : Type 0 where
  pub count : (x : ℤ) → count_up_to x ends ≡ count_by (is_crossed x y) edges
  pub many : length ends ≡ count_by (λ e. is_vertical e && spans y e) edges
  pub across : (r : Rect) → All (HoldsAround r (pos 0)) points → All (IsAcross r) ends
  pub low : (r : Rect) → All (HoldsAround r (pos 0)) points → 0 < length ends → r.y0 ≤ℤ y

-- ---- rectangles between ends

abbrev pub x_at : List ℤ → ℕ → ℤ
x_at ends k = slice_index_or ends k (pos 0)

pub record AreNotFalling (ends : List ℤ) : Type 0 where
  pub each : (i k : ℕ) → i ≤ k → k < length ends → x_at ends i ≤ℤ x_at ends k

-- The spans of the first k ends are put behind the old rectangles.
pub record IsPaired (old : List Rect) (ends : List ℤ) (k : ℕ) (y0 y1 : ℤ) (rects : List Rect) : Type 0 where
  pub in_range : k ≤ length ends
  pub even : is_odd k ≡ false
  pub cells : (x z : ℤ) → is_in_rects rects x z ≡ (is_in_rects old x z || (flips (take k ends) x && is_between y0 y1 z))
  pub formed : All IsRect old → All IsRect rects
  pub inside : (r : Rect) → All (IsRectIn r) old → All (IsAcross r) ends → (0 < length ends → r.y0 ≤ℤ y0) → y1 ≤ℤ r.y1 → All (IsRectIn r) rects
