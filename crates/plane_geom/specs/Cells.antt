-- Cells of the plane. A cell (x, y) is the unit square whose lower left corner is the point (x, y).
-- A set of cells is a test on cells, ℤ → ℤ → Bool.
use Rattle.std.specs.Prelude.{ℕ, zero, suc, ◌+◌, ◌^◌, ℤ, pos, neg_ℤ, ◌+ℤ◌, Bool, not, ◌&&◌, int_lt, List, [], ◌∷◌, sum_by, count_by}
use Rattle.std.specs.List.{list_any}
use Rattle.plane_geom.specs.declared.shapes.Rect.{Rect}

-- low <= z < high
abbrev pub is_between : ℤ → ℤ → ℤ → Bool
is_between low high z = not (int_lt z low) && int_lt z high

-- the n whole numbers from z on
unfoldable pub numbers : ℤ → ℕ → List ℤ
numbers z zero = []
numbers z (suc n) = z ∷ numbers (z +ℤ pos 1) n

-- the cells of a rectangle
abbrev pub is_in_rect : Rect → ℤ → ℤ → Bool
is_in_rect r x y = is_between r.x0 r.x1 x && is_between r.y0 r.y1 y

-- the cells of all rectangles of a list
abbrev pub is_in_rects : List Rect → ℤ → ℤ → Bool
is_in_rects rects x y = list_any (λ r. is_in_rect r x y) rects

-- Whether the square of `side` cells on a side whose lower left cell is (x, y) has a cell of the set.
abbrev pub is_met : ℕ → (ℤ → ℤ → Bool) → ℤ → ℤ → Bool
is_met side test x y = list_any (λ j. list_any (λ i. test i j) (numbers x side)) (numbers y side)

-- how many of the cells (x, y) pass, for x and y among the n whole numbers from z on
abbrev pub count_window : ℤ → ℕ → (ℤ → ℤ → Bool) → ℕ
count_window z n test = sum_by (λ y. count_by (λ x. test x y) (numbers z n)) (numbers z n)

-- How many cells pass, of those with both coordinates from -2^25 to 2^25. No placement on a layout lies beyond.
unfoldable pub count_cells : (ℤ → ℤ → Bool) → ℕ
count_cells test = count_window (neg_ℤ (pos (2 ^ 25))) (2 ^ 26 + 1) test

-- The same on a line: whether one of the `side` numbers from x on passes, and how many numbers pass.
abbrev pub is_met_on_line : ℕ → (ℤ → Bool) → ℤ → Bool
is_met_on_line side test x = list_any test (numbers x side)

unfoldable pub count_numbers : (ℤ → Bool) → ℕ
count_numbers test = count_by test (numbers (neg_ℤ (pos (2 ^ 25))) (2 ^ 26 + 1))
