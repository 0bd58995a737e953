-- Worked values of the definitions: each is computed, or an instance that holds beside one that is refused.
use Rattle.std.proofs.Common.{◌≡◌, ◌+◌, ◌^◌, Bool, true, false, not, ◌&&◌, List, [], ◌∷◌, refl, sym, subst, arith}
use Rattle.std.specs.Prelude.{ℤ, pos, negsuc, Option, IfSome}
use Rattle.std.proofs.lemmas.Bool.{false≢true}
use Rattle.std.proofs.lemmas.Int.{ints}
use Rattle.std.proofs.lemmas.List.Elements.{All-nil, All-cons, All-head, All-tail}
use Rattle.plane_geom.specs.Cells.{is_met, count_window, numbers}
use Rattle.mask_region.specs.declared.strips.Strip.{Strip}
use Rattle.mask_region.specs.Strips.{is_in_strip, is_in, HasCellAt, IsStrip, Follows, Banded, IsStripWithin, AreStripsWithin, IsCellWithin, AreRegionsWithin, AreMasksWithin}

-- the strip of the cells with y0 <= y < y1 and x0 <= x < x1
strip : ℤ → ℤ → ℤ → ℤ → Strip
strip y0 y1 x0 x1 = record { y0 = y0; y1 = y1; x0 = x0; x1 = x1 }

square : ℤ → ℤ → Strip
square low high = strip low high low high

-- ---- cells

-- a square of 4 without the square of 2 in its middle is a border of 12 cells
border : ℤ → ℤ → Bool
border x y = is_in (square (pos 0) (pos 4) ∷ []) x y && not (is_in (square (pos 1) (pos 3) ∷ []) x y)

border_cells : count_window (negsuc 2) 10 border ≡ 12
unfolding border square strip numbers
border_cells = refl

border_out : border (pos 1) (pos 1) ≡ false
unfolding border square strip
border_out = refl

border_in : border (pos 0) (pos 1) ≡ true
unfolding border square strip
border_in = refl

no_strips : is_in [] (pos 0) (pos 0) ≡ false
no_strips = refl

right_edge : is_in_strip (square (pos 0) (pos 4)) (pos 4) (pos 0) ≡ false
unfolding square strip
right_edge = refl

upper_edge : is_in_strip (square (pos 0) (pos 4)) (pos 0) (pos 4) ≡ false
unfolding square strip
upper_edge = refl

lower_left : is_in_strip (square (pos 0) (pos 4)) (pos 0) (pos 0) ≡ true
unfolding square strip
lower_left = refl

-- 25 by 25 squares of 6 meet a square of 20, the first of them at (-5, -5)
placed : ℤ → ℤ → Bool
placed = is_met 6 (is_in (square (pos 0) (pos 20) ∷ []))

placed_cells : count_window (negsuc 9) 40 placed ≡ 625
unfolding placed square strip numbers
placed_cells = refl

placed_first : placed (negsuc 4) (negsuc 4) ≡ true
unfolding placed square strip numbers
placed_first = refl

placed_before : placed (negsuc 5) (negsuc 4) ≡ false
unfolding placed square strip numbers
placed_before = refl

-- ---- strips and bands

thin_strip : IsStrip (square (pos 0) (pos 1))
unfolding square strip
thin_strip =
    record { wide = omega (arith, ints); high = omega (arith, ints); left = omega (arith, ints); below = omega (arith, ints); right = omega (arith, ints); above = omega (arith, ints) }

empty_strip : IsStrip (strip (pos 0) (pos 1) (pos 4) (pos 4)) → ⊥
unfolding strip
empty_strip h = omega (arith, ints, h.wide)

far_strip : IsStrip (strip (pos 0) (pos 1) (pos 0) (pos (2 ^ 25 + 1))) → ⊥
unfolding strip
far_strip h = omega (arith, ints, h.right)

-- in one band, with a gap of one cell
with_gap : Follows (strip (pos 0) (pos 3) (pos 0) (pos 4)) (strip (pos 0) (pos 3) (pos 5) (pos 8))
unfolding strip
with_gap = record { later = omega (arith, ints); apart = λ up. absurd (omega (arith, ints, up)); band = λ e. refl; right = λ e. omega (arith, ints) }

without_gap : Follows (strip (pos 0) (pos 3) (pos 0) (pos 4)) (strip (pos 0) (pos 3) (pos 4) (pos 8)) → ⊥
unfolding strip
without_gap h = omega (arith, ints, h.right refl)

other_height : Follows (strip (pos 0) (pos 3) (pos 0) (pos 4)) (strip (pos 0) (pos 2) (pos 5) (pos 8)) → ⊥
unfolding strip
other_height h = omega (arith, ints, h.band refl)

-- in the band above, further left
in_next_band : Follows (strip (pos 0) (pos 3) (pos 4) (pos 8)) (strip (pos 3) (pos 4) (pos 0) (pos 8))
unfolding strip
in_next_band = record { later = omega (arith, ints); apart = λ up. omega (arith, ints); band = λ e. absurd (omega (arith, ints, e)); right = λ e. absurd (omega (arith, ints, e)) }

common_row : Follows (strip (pos 0) (pos 3) (pos 0) (pos 4)) (strip (pos 2) (pos 5) (pos 5) (pos 8)) → ⊥
unfolding strip
common_row h = omega (arith, ints, h.apart (omega (arith, ints)))

band_below : Follows (strip (pos 3) (pos 4) (pos 0) (pos 8)) (strip (pos 0) (pos 3) (pos 0) (pos 4)) → ⊥
unfolding strip
band_below h = omega (arith, ints, h.later)

nothing_banded : Banded []
nothing_banded = record { each = tt }

one_banded : Banded (square (pos 0) (pos 1) ∷ [])
one_banded = record { each = (thin_strip, tt, tt) }

overlap_banded : Banded (square (pos 0) (pos 4) ∷ square (pos 2) (pos 6) ∷ []) → ⊥
unfolding square strip
overlap_banded h = omega (arith, ints, h.each.1.0.apart (omega (arith, ints)))

-- ---- bounds

strip_within : IsStripWithin 4 (square (negsuc 3) (pos 4))
unfolding square strip
strip_within =
    record {
      x0 = record { low = omega (arith, ints); high = omega (arith, ints) };
      y0 = record { low = omega (arith, ints); high = omega (arith, ints) };
      x1 = record { low = omega (arith, ints); high = omega (arith, ints) };
      y1 = record { low = omega (arith, ints); high = omega (arith, ints) };
    }

strip_not_within : IsStripWithin 4 (square (pos 0) (pos 5)) → ⊥
unfolding square strip
strip_not_within h = omega (arith, ints, h.y1.high)

none_within : AreStripsWithin 0 []
none_within = record { each = All-nil (IsStripWithin 0) }

strips_within : AreStripsWithin 4 (square (negsuc 3) (pos 4) ∷ [])
strips_within = record { each = All-cons (IsStripWithin 4) (square (negsuc 3) (pos 4)) [] strip_within (All-nil (IsStripWithin 4)) }

-- Each strip counts.
second_not_within : AreStripsWithin 4 (square (negsuc 3) (pos 4) ∷ square (pos 0) (pos 5) ∷ []) → ⊥
second_not_within h =
    strip_not_within (All-head (IsStripWithin 4) (square (pos 0) (pos 5)) [] (All-tail (IsStripWithin 4) (square (negsuc 3) (pos 4)) (square (pos 0) (pos 5) ∷ []) h.each))

last_cell_within : IsCellWithin 4 (pos 3) (negsuc 3)
last_cell_within = record { left = omega (arith, ints); right = omega (arith, ints); below = omega (arith, ints); above = omega (arith, ints) }

cell_at_bound : IsCellWithin 4 (pos 4) (pos 0) → ⊥
cell_at_bound h = omega (arith, ints, h.right)

cell_below_bound : IsCellWithin 4 (pos 0) (negsuc 4) → ⊥
cell_below_bound h = omega (arith, ints, h.below)

-- ---- masks

no_regions : AreRegionsWithin 4 []
no_regions = record { each = All-nil (AreStripsWithin 4) }

one_region : AreRegionsWithin 4 ((square (negsuc 3) (pos 4) ∷ []) ∷ [])
one_region = record { each = All-cons (AreStripsWithin 4) (square (negsuc 3) (pos 4) ∷ []) [] strips_within (All-nil (AreStripsWithin 4)) }

far_regions : List (List Strip)
far_regions = (square (negsuc 3) (pos 4) ∷ square (pos 0) (pos 5) ∷ []) ∷ []

far_region : AreRegionsWithin 4 far_regions → ⊥
unfolding far_regions
far_region h = second_not_within (All-head (AreStripsWithin 4) (square (negsuc 3) (pos 4) ∷ square (pos 0) (pos 5) ∷ []) [] h.each)

masks_within : AreMasksWithin 4 (record { wires = (square (negsuc 3) (pos 4) ∷ []) ∷ []; cuts = []; channels = [] })
masks_within = record { wires = one_region; cuts = no_regions; channels = no_regions }

-- Cuts and channels count as wires do.
cuts_not_within : AreMasksWithin 4 (record { wires = []; cuts = far_regions; channels = [] }) → ⊥
cuts_not_within h = far_region h.cuts

channels_not_within : AreMasksWithin 4 (record { wires = []; cuts = []; channels = far_regions }) → ⊥
channels_not_within h = far_region h.channels

-- ---- the strip of a cell

two : List Strip
two = strip (pos 0) (pos 3) (pos 0) (pos 4) ∷ strip (pos 0) (pos 3) (pos 6) (pos 8) ∷ []

in_second : HasCellAt two (pos 7) (pos 2) 1
unfolding two strip
in_second = record { strip = strip (pos 0) (pos 3) (pos 6) (pos 8); at = refl; has = refl }

not_in_first : HasCellAt two (pos 7) (pos 2) 0 → ⊥
unfolding two strip
not_in_first h =
    let P : Option Strip → Type 0 = λ o. IfSome o (λ s. is_in_strip s (pos 7) (pos 2) ≡ true) in
    let here : is_in_strip (strip (pos 0) (pos 3) (pos 0) (pos 4)) (pos 7) (pos 2) ≡ true = subst P (sym h.at) h.has in
    false≢true here

no_third : HasCellAt two (pos 7) (pos 2) 2 → ⊥
unfolding two strip
no_third h = cc
