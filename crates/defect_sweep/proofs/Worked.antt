-- Worked instances of the definitions: values that are computed, relations that hold, and relations that are refused.
use Rattle.std.proofs.Common.{◌≡◌, ℕ, zero, suc, ◌+◌, ◌<◌, ◌&&◌, List, [], ◌∷◌, refl, arith}
use Rattle.std.specs.Prelude.{ℤ, pos, negsuc}
use Rattle.plane_geom.specs.Cells.{is_met, count_window, numbers}
use Rattle.mask_region.specs.declared.strips.Strip.{Strip}
use Rattle.mask_region.specs.Strips.{is_in}
use Rattle.defect_sweep.specs.declared.sides.SideWeight.{SideWeight}
use Rattle.defect_sweep.specs.Sides.{IsSide, side_at, DoRise, AreSides}
use Rattle.defect_sweep.specs.Counting.{count_of, pair_of, pairs_below, listed, region_at}

-- ---- placements on both, in a window that has them all

strip : ℤ → ℤ → ℤ → ℤ → Strip
strip x0 y0 x1 y1 = record { y0 = y0; y1 = y1; x0 = x0; x1 = x1 }

-- three boxes of 4 by 20 cells, with gaps of 4
first : List Strip
first = strip (pos 0) (pos 0) (pos 4) (pos 20) ∷ []

second : List Strip
second = strip (pos 8) (pos 0) (pos 12) (pos 20) ∷ []

third : List Strip
third = strip (pos 16) (pos 0) (pos 20) (pos 20) ∷ []

on_both : ℕ → List Strip → List Strip → ℕ
on_both cells a b = count_window (negsuc 14) 36 (λ x y. is_met cells (is_in a) x y && is_met cells (is_in b) x y)

-- 9 by 33 placements of a square of 14 cells meet two neighbours, and 1 by 33 of them the third box as well, which counts
-- for each of the three pairs
neighbours : on_both 14 first second ≡ 297
unfolding on_both first second strip numbers
neighbours = refl

other_neighbours : on_both 14 second third ≡ 297
unfolding on_both second third strip numbers
other_neighbours = refl

over_the_middle : on_both 14 first third ≡ 33
unfolding on_both first third strip numbers
over_the_middle = refl

-- one cell less, and none reaches over the middle
too_small : on_both 13 first third ≡ 0
unfolding on_both first third strip numbers
too_small = refl

-- a net in two pieces: a placement that meets both pieces counts once
once : on_both 14 (strip (pos 0) (pos 0) (pos 4) (pos 20) ∷ strip (pos 16) (pos 0) (pos 20) (pos 20) ∷ []) second ≡ 561
unfolding on_both second strip numbers
once = refl

-- ---- pairs

no_pairs : pairs_below 1 ≡ []
no_pairs = refl

one_pair : pairs_below 2 ≡ pair_of 0 1 ∷ []
one_pair = refl

in_order : pairs_below 4 ≡ pair_of 0 1 ∷ pair_of 0 2 ∷ pair_of 0 3 ∷ pair_of 1 2 ∷ pair_of 1 3 ∷ pair_of 2 3 ∷ []
in_order = refl

-- ---- counts of a pair

on_wire : ℕ → ℕ
on_wire zero = 0
on_wire (suc zero) = 7
on_wire (suc (suc w)) = 5

-- the total is the sum over the wires, of which those with no placement are left out
of_three_wires : count_of 3 (pair_of 0 1) on_wire ≡ record { pair = pair_of 0 1; total = 12; on = (record { 0 = 1 }, 7) ∷ (record { 0 = 2 }, 5) ∷ [] }
unfolding on_wire
of_three_wires = refl

of_one_wire : count_of 1 (pair_of 0 1) on_wire ≡ record { pair = pair_of 0 1; total = 0; on = [] }
unfolding on_wire
of_one_wire = refl

of_no_wire : count_of 0 (pair_of 2 5) on_wire ≡ record { pair = pair_of 2 5; total = 0; on = [] }
of_no_wire = refl

-- a pair with a total of 0 is not listed
only_above_0 : listed (count_of 1 (pair_of 0 1) on_wire ∷ count_of 2 (pair_of 0 2) on_wire ∷ []) ≡ count_of 2 (pair_of 0 2) on_wire ∷ []
unfolding on_wire
only_above_0 = refl

-- the regions stand net by net, and in each net wire by wire
third_region : region_at 2 (first ∷ second ∷ third ∷ [] ∷ []) 1 0 ≡ third
third_region = refl

last_region : region_at 2 (first ∷ second ∷ third ∷ [] ∷ []) 1 1 ≡ []
last_region = refl

second_region : region_at 2 (first ∷ second ∷ third ∷ [] ∷ []) 0 1 ≡ second
second_region = refl

-- ---- sides

side : ℕ → ℕ → SideWeight
side cells weight = record { cells = cells; weight = weight }

least_side : IsSide (side 1 1)
unfolding side
least_side = record { some = omega arith; small = omega arith; counts = omega arith; light = omega arith }

greatest_side : IsSide (side 65536 30)
unfolding side
greatest_side = record { some = omega arith; small = omega arith; counts = omega arith; light = omega arith }

side_of_none : IsSide (side 0 1) → ⊥
unfolding side
side_of_none h = omega (arith, h.some)

side_too_great : IsSide (side 65537 1) → ⊥
unfolding side
side_too_great h = omega (arith, h.small)

weighs_nothing : IsSide (side 6 0) → ⊥
unfolding side
weighs_nothing h = omega (arith, h.counts)

weighs_too_much : IsSide (side 6 31) → ⊥
unfolding side
weighs_too_much h = omega (arith, h.light)

rising_sides : DoRise (side 2 30 ∷ side 6 1 ∷ side 8 1 ∷ [])
unfolding side
rising_sides = record { each = each } where
  each : (k : ℕ) → k + 1 < 3 → (side_at (side 2 30 ∷ side 6 1 ∷ side 8 1 ∷ []) k).cells < (side_at (side 2 30 ∷ side 6 1 ∷ side 8 1 ∷ []) (k + 1)).cells
  each zero lt = omega arith
  each (suc zero) lt = omega arith
  each (suc (suc k)) lt = absurd (omega (arith, lt))

one_side_twice : DoRise (side 6 1 ∷ side 6 2 ∷ []) → ⊥
unfolding side
one_side_twice h = omega (arith, h.each 0 (omega arith))

falling_sides : DoRise (side 2 1 ∷ side 8 1 ∷ side 6 1 ∷ []) → ⊥
unfolding side
falling_sides h = omega (arith, h.each 1 (omega arith))

no_sides : AreSides [] → ⊥
no_sides h = omega (arith, h.some)
