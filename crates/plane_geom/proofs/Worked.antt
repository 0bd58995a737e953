-- Worked values of the definitions: each is computed, or an instance that holds beside one that is refused.
use Rattle.std.proofs.Common.{◌≡◌, ℕ, Bool, true, false, ◌&&◌, List, [], ◌∷◌, refl, ap, arith}
use Rattle.std.specs.Prelude.{ℤ, pos, negsuc, map, codes}
use Rattle.std.proofs.lemmas.Bool.{false≢true}
use Rattle.std.proofs.lemmas.Int.{ints}
use Rattle.std.proofs.lemmas.List.Elements.{All-nil, All-cons, All-head}
use Rattle.plane_geom.specs.declared.shapes.Point.{Point}
use Rattle.plane_geom.specs.declared.shapes.Rect.{Rect}
use Rattle.plane_geom.specs.declared.shapes.Shape.TheVariants.{Block}
use Rattle.plane_geom.specs.declared.places.Place.{Place}
use Rattle.plane_geom.specs.Bounds.{IsWithin, IsPointWithin, IsRectWithin}
use Rattle.plane_geom.specs.Cells.{is_between, is_in_rect, is_in_rects, is_met, count_window, numbers}
use Rattle.plane_geom.specs.Covering.{Figure, block, polygon, wire, figure_of, covers, moved_figure, IsWellFormed, IsRectIn, HoldsAround, IsReach}
use Rattle.plane_geom.specs.Ends.{flips}
use Rattle.plane_geom.specs.Names.{is_short, is_name}
use Rattle.plane_geom.specs.Placement.{shift, negate_x, negate_y, exchange, moved, placed, IsPlaceOf, IsShiftWithin}

-- the point with these coordinates
unfoldable pub at : ℤ → ℤ → Point
at x y = record { x = x; y = y }

-- the square from (low, low) to (high, high)
square : ℤ → ℤ → Rect
square low high = record { x0 = low; y0 = low; x1 = high; y1 = high }

-- ---- bounds

least_within : IsWithin 5 (negsuc 4)
least_within = record { low = omega (arith, ints); high = omega (arith, ints) }

greatest_within : IsWithin 5 (pos 5)
greatest_within = record { low = omega (arith, ints); high = omega (arith, ints) }

not_within : IsWithin 5 (pos 6) → ⊥
not_within h = omega (arith, ints, h.high)

not_within_below : IsWithin 5 (negsuc 5) → ⊥
not_within_below h = omega (arith, ints, h.low)

corner_within : IsPointWithin 5 (at (pos 5) (negsuc 4))
unfolding at
corner_within = record { x = greatest_within; y = least_within }

-- Both coordinates count.
point_above : IsPointWithin 5 (at (pos 0) (pos 6)) → ⊥
unfolding at
point_above h = not_within h.y

rect_within : IsRectWithin 5 (square (negsuc 4) (pos 5))
unfolding square
rect_within = record { x0 = least_within; y0 = least_within; x1 = greatest_within; y1 = greatest_within }

-- The corners that no cell touches count too.
rect_not_within : IsRectWithin 5 (square (pos 0) (pos 6)) → ⊥
unfolding square
rect_not_within h = not_within h.x1

-- ---- cells

first_between : is_between (pos 0) (pos 4) (pos 0) ≡ true
first_between = refl

end_between : is_between (pos 0) (pos 4) (pos 4) ≡ false
end_between = refl

none_between : is_between (pos 4) (pos 4) (pos 4) ≡ false
none_between = refl

lower_left_cell : is_in_rect (square (negsuc 1) (pos 2)) (negsuc 1) (negsuc 1) ≡ true
unfolding square
lower_left_cell = refl

upper_edge : is_in_rect (square (negsuc 1) (pos 2)) (pos 0) (pos 2) ≡ false
unfolding square
upper_edge = refl

no_rects : is_in_rects [] (pos 0) (pos 0) ≡ false
no_rects = refl

second_of_two : is_in_rects (square (pos 0) (pos 2) ∷ square (pos 4) (pos 6) ∷ []) (pos 5) (pos 4) ≡ true
unfolding square
second_of_two = refl

between_two : is_in_rects (square (pos 0) (pos 2) ∷ square (pos 4) (pos 6) ∷ []) (pos 3) (pos 3) ≡ false
unfolding square
between_two = refl

-- ---- placements

bridging : ℕ → Rect → Rect → ℤ → ℤ → Bool
bridging side a b x y = is_met side (is_in_rect a) x y && is_met side (is_in_rect b) x y

-- two boxes, a gap of 4 cells apart, and squares of 6 and of 4 cells
left : Rect
left = square (pos 0) (pos 20)

right : Rect
right = record { x0 = pos 24; y0 = pos 0; x1 = pos 44; y1 = pos 20 }

over_a_gap : count_window (negsuc 9) 60 (bridging 6 left right) ≡ 25
unfolding bridging left right square numbers
over_a_gap = refl

too_small : count_window (negsuc 9) 60 (bridging 4 left right) ≡ 0
unfolding bridging left right square numbers
too_small = refl

-- boxes that meet at a corner, and a square of 2 cells
over_a_corner : count_window (negsuc 9) 60 (bridging 2 left (square (pos 20) (pos 40))) ≡ 1
unfolding bridging left square numbers
over_a_corner = refl

-- A square of no cells meets nothing, and one of one cell meets the set in that cell alone.
met_by_none : is_met 0 (is_in_rect left) (pos 3) (pos 3) ≡ false
unfolding left square numbers
met_by_none = refl

met_by_one : count_window (negsuc 9) 60 (is_met 1 (is_in_rect left)) ≡ 400
unfolding left square numbers
met_by_one = refl

-- ---- sets by their ends

two_ends : List ℤ
two_ends = pos 2 ∷ pos 5 ∷ []

before_ends : flips two_ends (pos 1) ≡ false
unfolding two_ends
before_ends = refl

at_first_end : flips two_ends (pos 2) ≡ true
unfolding two_ends
at_first_end = refl

at_last_end : flips two_ends (pos 5) ≡ false
unfolding two_ends
at_last_end = refl

no_ends : flips [] (pos 0) ≡ false
no_ends = refl

-- Two ends at one place are none.
same_end_twice : flips (pos 2 ∷ pos 2 ∷ []) (pos 2) ≡ false
same_end_twice = refl

-- ---- cells of shapes

-- the line from (0, 0) to (20, 0), 4 to each side, is the rectangle from (-4, -4) to (24, 4)
line : Figure
line = wire (pos 4) (at (pos 0) (pos 0) ∷ at (pos 20) (pos 0) ∷ [])

line_cells : count_window (negsuc 9) 40 (covers line) ≡ 224
unfolding line at numbers
line_cells = refl

-- a wire with a bend covers the square at the bend once
bent_cells : count_window (negsuc 9) 40 (covers (wire (pos 1) (at (pos 0) (pos 0) ∷ at (pos 10) (pos 0) ∷ at (pos 10) (pos 10) ∷ []))) ≡ 44
unfolding at numbers
bent_cells = refl

-- a square of 10 with a bite of 5 at its upper right corner
bite : List Point
bite = at (pos 0) (pos 0) ∷ at (pos 10) (pos 0) ∷ at (pos 10) (pos 5) ∷ at (pos 5) (pos 5) ∷ at (pos 5) (pos 10) ∷ at (pos 0) (pos 10) ∷ []

bitten_cells : count_window (negsuc 4) 20 (covers (polygon bite)) ≡ 75
unfolding bite at numbers
bitten_cells = refl

bitten_in : covers (polygon bite) (pos 4) (pos 9) ≡ true
unfolding bite at
bitten_in = refl

bitten_out : covers (polygon bite) (pos 5) (pos 5) ≡ false
unfolding bite at
bitten_out = refl

block_cells : count_window (negsuc 4) 30 (covers (figure_of (Block left))) ≡ 400
unfolding left square numbers
block_cells = refl

-- A block of no width covers nothing.
flat_cells : count_window (negsuc 4) 30 (covers (block (record { x0 = pos 2; y0 = pos 0; x1 = pos 2; y1 = pos 9 }))) ≡ 0
unfolding numbers
flat_cells = refl

-- ---- well-formed shapes

flat_formed : IsWellFormed (block (record { x0 = pos 2; y0 = pos 0; x1 = pos 2; y1 = pos 9 }))
flat_formed = record { across = omega (arith, ints); up = omega (arith, ints) }

turned_round : IsWellFormed (block (square (pos 2) (pos 1))) → ⊥
unfolding square
turned_round h = omega (arith, ints, h.across)

bitten_formed : IsWellFormed (polygon bite)
unfolding bite at
bitten_formed = record { some = omega arith; along = refl }

-- a path with a bend, from (0, 0) to (4, 4)
bend : List Point
bend = at (pos 0) (pos 0) ∷ at (pos 4) (pos 0) ∷ at (pos 4) (pos 4) ∷ []

bend_formed : IsWellFormed (wire (pos 0) bend)
unfolding bend at
bend_formed = record { some = omega arith; along = refl; thick = omega (arith, ints) }

-- The edge that closes an outline lies on an axis too.
bend_open : IsWellFormed (polygon bend) → ⊥
unfolding bend at
bend_open h = false≢true h.along

no_points : IsWellFormed (polygon []) → ⊥
no_points h = omega (arith, h.some)

thinner_than_none : IsWellFormed (wire (negsuc 0) bend) → ⊥
thinner_than_none h = omega (arith, ints, h.thick)

-- ---- reaches

in_itself : IsRectIn (square (pos 0) (pos 4)) (square (pos 0) (pos 4))
unfolding square
in_itself = record { left = omega (arith, ints); below = omega (arith, ints); right = omega (arith, ints); above = omega (arith, ints) }

in_larger : IsRectIn (square (negsuc 0) (pos 4)) (square (pos 1) (pos 2))
unfolding square
in_larger = record { left = omega (arith, ints); below = omega (arith, ints); right = omega (arith, ints); above = omega (arith, ints) }

not_in_smaller : IsRectIn (square (pos 0) (pos 4)) (square (pos 1) (pos 5)) → ⊥
unfolding square
not_in_smaller h = omega (arith, ints, h.right)

-- a wire of one point, 3 to each side
dot : Figure
dot = wire (pos 3) (at (pos 5) (pos 5) ∷ [])

dot_around : HoldsAround (square (pos 2) (pos 8)) (pos 3) (at (pos 5) (pos 5))
unfolding square at
dot_around = record { left = omega (arith, ints); below = omega (arith, ints); right = omega (arith, ints); above = omega (arith, ints) }

holds_dot : (s : Rect) → HoldsAround s (pos 3) (at (pos 5) (pos 5)) → IsRectIn s (square (pos 2) (pos 8))
unfolding at square
holds_dot s h = record { left = omega (arith, ints, h.left); below = omega (arith, ints, h.below); right = omega (arith, ints, h.right); above = omega (arith, ints, h.above) }

dot_reach : IsReach dot (square (pos 2) (pos 8))
unfolding dot square at
dot_reach =
    record {
      round = All-cons (HoldsAround (square (pos 2) (pos 8)) (pos 3)) (at (pos 5) (pos 5)) [] dot_around (All-nil (HoldsAround (square (pos 2) (pos 8)) (pos 3)));
      least = λ s h. holds_dot s (All-head (HoldsAround s (pos 3)) (at (pos 5) (pos 5)) [] h);
    }

-- A larger rectangle is not the least one, and the point alone does not hold the width.
dot_not_larger : IsReach dot (square (pos 1) (pos 8)) → ⊥
unfolding dot square at
dot_not_larger h = omega (arith, ints, (h.least (square (pos 2) (pos 8)) dot_reach.round).left)

dot_not_smaller : IsReach dot (square (pos 5) (pos 5)) → ⊥
unfolding dot square at
dot_not_smaller h = omega (arith, ints, (All-head (HoldsAround (square (pos 5) (pos 5)) (pos 3)) (at (pos 5) (pos 5)) [] h.round).left)

-- ---- places

-- a quarter turn to the left, and then a shift
turned_then_shifted : moved (exchange ∷ negate_x ∷ shift (pos 10) (pos 0) ∷ []) (at (pos 1) (pos 2)) ≡ at (pos 8) (pos 1)
unfolding at
turned_then_shifted = refl

shifted_then_turned : moved (shift (pos 10) (pos 0) ∷ exchange ∷ negate_x ∷ []) (at (pos 1) (pos 2)) ≡ at (negsuc 1) (pos 11)
unfolding at
shifted_then_turned = refl

not_moved : moved [] (at (pos 1) (pos 2)) ≡ at (pos 1) (pos 2)
not_moved = refl

-- the same quarter turn and shift as a place
corner : Place
corner = record { turn = record { swap = true; neg_x = true; neg_y = false }; dx = pos 10; dy = pos 0 }

placed_corner : placed corner (at (pos 1) (pos 2)) ≡ at (pos 8) (pos 1)
unfolding corner at
placed_corner = refl

corner_place : IsPlaceOf (exchange ∷ negate_x ∷ shift (pos 10) (pos 0) ∷ []) corner
unfolding corner
corner_place = record { moves = λ p. refl }

-- The same moves in another order are another place.
other_order : IsPlaceOf (negate_x ∷ exchange ∷ shift (pos 10) (pos 0) ∷ []) corner → ⊥
unfolding corner at
other_order h = omega (arith, ints, ap (λ p. p.x) (h.moves (at (pos 0) (pos 1))))

no_shift : IsPlaceOf (exchange ∷ negate_x ∷ []) corner → ⊥
unfolding corner at
no_shift h = omega (arith, ints, ap (λ p. p.x) (h.moves (at (pos 0) (pos 0))))

corner_shift : IsShiftWithin 10 corner
unfolding corner
corner_shift = record { dx = record { low = omega (arith, ints); high = omega (arith, ints) }; dy = record { low = omega (arith, ints); high = omega (arith, ints) } }

corner_further : IsShiftWithin 9 corner → ⊥
unfolding corner
corner_further h = omega (arith, ints, h.dx.high)

-- Placed shapes: a block's corners stay in order, a polygon and a wire are moved point by point, and a wire keeps its width.
placed_block :
    moved_figure (exchange ∷ negate_x ∷ []) (block (record { x0 = pos 1; y0 = pos 2; x1 = pos 4; y1 = pos 8 }))
    ≡ block (record { x0 = negsuc 7; y0 = pos 1; x1 = negsuc 1; y1 = pos 4 })
placed_block = refl

placed_bend : moved_figure (negate_y ∷ shift (pos 1) (pos 0) ∷ []) (polygon bend) ≡ polygon (at (pos 1) (pos 0) ∷ at (pos 5) (pos 0) ∷ at (pos 5) (negsuc 3) ∷ [])
unfolding bend at
placed_bend = refl

placed_dot : moved_figure (negate_x ∷ []) dot ≡ wire (pos 3) (at (negsuc 4) (pos 5) ∷ [])
unfolding dot at
placed_dot = refl

-- ---- names

short_name : is_short (67 ∷ 77 ∷ 70 ∷ []) ≡ true
short_name = refl

long_name : is_short (67 ∷ 77 ∷ 70 ∷ 67 ∷ 77 ∷ []) ≡ false
long_name = refl

no_name : is_short [] ≡ false
no_name = refl

small_letter : is_short (99 ∷ []) ≡ false
small_letter = refl

-- names of 64 and of 65 bytes
lengths : map is_name (codes "0123456789012345678901234567890123456789012345678901234567890123" ∷ codes "01234567890123456789012345678901234567890123456789012345678901234" ∷ [] ∷ []) ≡ true ∷ false ∷ false ∷ []
lengths = refl

-- signs, a `#` first and within, a `;`, a byte above 126
bytes_of_names : map is_name (codes "+*!():" ∷ codes "#a" ∷ codes "a#" ∷ codes "a;" ∷ (97 ∷ 127 ∷ []) ∷ []) ≡ true ∷ false ∷ true ∷ false ∷ false ∷ []
bytes_of_names = refl
