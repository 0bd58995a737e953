-- Worked values of the definition of a shape's cells, each computed: outlines and wires that are well formed, but odd.
use Rattle.std.proofs.Common.{◌≡◌, true, false, List, [], ◌∷◌, refl, arith}
use Rattle.std.specs.Prelude.{ℤ, pos, negsuc}
use Rattle.plane_geom.specs.declared.shapes.Point.{Point}
use Rattle.plane_geom.specs.Cells.{count_window, numbers}
use Rattle.plane_geom.specs.Covering.{polygon, wire, covers, IsWellFormed}

at : ℤ → ℤ → Point
at x y = record { x = x; y = y }

-- an outline that crosses itself: what it goes round twice is not covered
crossed : List Point
crossed = at (pos 0) (pos 0) ∷ at (pos 6) (pos 0) ∷ at (pos 6) (pos 4) ∷ at (pos 2) (pos 4) ∷ at (pos 2) (pos 2) ∷ at (pos 4) (pos 2) ∷ at (pos 4) (pos 6) ∷ at (pos 0) (pos 6) ∷ []

crossed_formed : IsWellFormed (polygon crossed)
unfolding crossed at
crossed_formed = record { some = omega arith; along = refl }

crossed_cells : count_window (negsuc 1) 10 (covers (polygon crossed)) ≡ 28
unfolding crossed at numbers
crossed_cells = refl

crossed_twice : covers (polygon crossed) (pos 3) (pos 3) ≡ false
unfolding crossed at
crossed_twice = refl

-- an outline that touches itself at the corner (2, 2)
touching : List Point
touching = at (pos 0) (pos 0) ∷ at (pos 2) (pos 0) ∷ at (pos 2) (pos 4) ∷ at (pos 4) (pos 4) ∷ at (pos 4) (pos 2) ∷ at (pos 0) (pos 2) ∷ []

touching_cells : count_window (negsuc 1) 8 (covers (polygon touching)) ≡ 8
unfolding touching at numbers
touching_cells = refl

touching_above : covers (polygon touching) (pos 2) (pos 2) ≡ true
unfolding touching at
touching_above = refl

touching_beside : covers (polygon touching) (pos 2) (pos 1) ≡ false
unfolding touching at
touching_beside = refl

-- a square of 4 with points in the midst of its edges, and one corner twice
many_points : List Point
many_points = at (pos 0) (pos 0) ∷ at (pos 2) (pos 0) ∷ at (pos 4) (pos 0) ∷ at (pos 4) (pos 0) ∷ at (pos 4) (pos 1) ∷ at (pos 4) (pos 4) ∷ at (pos 0) (pos 4) ∷ at (pos 0) (pos 3) ∷ []

many_points_cells : count_window (negsuc 1) 8 (covers (polygon many_points)) ≡ 16
unfolding many_points at numbers
many_points_cells = refl

-- the same square gone round twice
round_twice : List Point
round_twice = at (pos 0) (pos 0) ∷ at (pos 4) (pos 0) ∷ at (pos 4) (pos 4) ∷ at (pos 0) (pos 4) ∷ at (pos 0) (pos 0) ∷ at (pos 4) (pos 0) ∷ at (pos 4) (pos 4) ∷ at (pos 0) (pos 4) ∷ []

round_twice_cells : count_window (negsuc 1) 8 (covers (polygon round_twice)) ≡ 0
unfolding round_twice at numbers
round_twice_cells = refl

-- a square of 6 with a hole of 2, to which a doubled edge leads
hole : List Point
hole =
    at (pos 0) (pos 0) ∷ at (pos 2) (pos 0) ∷ at (pos 2) (pos 2) ∷ at (pos 4) (pos 2) ∷ at (pos 4) (pos 4) ∷ at (pos 2) (pos 4) ∷ at (pos 2) (pos 2) ∷ at (pos 2) (pos 0)
    ∷ at (pos 6) (pos 0) ∷ at (pos 6) (pos 6) ∷ at (pos 0) (pos 6) ∷ []

hole_cells : count_window (negsuc 1) 10 (covers (polygon hole)) ≡ 32
unfolding hole at numbers
hole_cells = refl

in_hole : covers (polygon hole) (pos 2) (pos 2) ≡ false
unfolding hole at
in_hole = refl

at_doubled_edge : covers (polygon hole) (pos 2) (pos 1) ≡ true
unfolding hole at
at_doubled_edge = refl

-- a square of 4 with a spike: an edge that goes out and comes back
spiked : List Point
spiked = at (pos 0) (pos 0) ∷ at (pos 4) (pos 0) ∷ at (pos 4) (pos 4) ∷ at (pos 2) (pos 4) ∷ at (pos 2) (pos 7) ∷ at (pos 2) (pos 4) ∷ at (pos 0) (pos 4) ∷ []

spiked_cells : count_window (negsuc 1) 10 (covers (polygon spiked)) ≡ 16
unfolding spiked at numbers
spiked_cells = refl

-- An outline of one point is well formed, and covers nothing.
point_formed : IsWellFormed (polygon (at (pos 1) (pos 1) ∷ []))
unfolding at
point_formed = record { some = omega arith; along = refl }

point_cells : count_window (negsuc 1) 8 (covers (polygon (at (pos 1) (pos 1) ∷ []))) ≡ 0
unfolding at numbers
point_cells = refl

-- A wire of one point is a square, one of no width covers nothing, and one that comes back covers its cells once.
dot_cells : count_window (negsuc 9) 20 (covers (wire (pos 3) (at (pos 0) (pos 0) ∷ []))) ≡ 36
unfolding at numbers
dot_cells = refl

thin_cells : count_window (negsuc 1) 30 (covers (wire (pos 0) (at (pos 0) (pos 0) ∷ at (pos 20) (pos 0) ∷ []))) ≡ 0
unfolding at numbers
thin_cells = refl

back_cells : count_window (negsuc 4) 20 (covers (wire (pos 1) (at (pos 0) (pos 0) ∷ at (pos 8) (pos 0) ∷ at (pos 4) (pos 0) ∷ []))) ≡ 20
unfolding at numbers
back_cells = refl
