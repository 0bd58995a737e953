-- The placements that meet a region, side by side.
use Rattle.std.proofs.Common.{◌≡◌, ℕ, ◌+◌, ◌<◌, ◌≤◌, ◌^◌, List, [], ◌∷◌, ◌++◌, length, sym, ap, ◌∙◌, subst, arith, inl, inr}
use Rattle.std.specs.Prelude.{ℤ}
use Rattle.std.proofs.lemmas.Bool.{false≢true, cases_lt}
use Rattle.std.proofs.lemmas.List.{get_or_past, get_or_append_left, get_or_push, length_push}
use Rattle.plane_geom.specs.Cells.{is_met}
use Rattle.mask_region.specs.declared.strips.Strip.{Strip}
use Rattle.mask_region.specs.Strips.{is_in, AreStripsWithin}
use Rattle.defect_sweep.specs.declared.sides.SideWeight.{SideWeight}
use Rattle.defect_sweep.specs.Sides.{AreSides, side_at}
use Rattle.defect_sweep.specs.Reaching.{placements_at, ArePlacements, AreNear}
use Rattle.defect_sweep.proofs.Near.{met_near}
use Rattle.defect_sweep.proofs.Meeting.{side_of_all}
use Rattle.net_trace.proofs.Lists.{last_or_before}

-- the placements for the first k sides
pub record ArePlaced (sides : List SideWeight) (region : List Strip) (k : ℕ) (placements : List (List Strip)) : Type 0 where
  pub each : length placements ≡ k
  pub cells : (j : ℕ) → j < k → (x y : ℤ) → is_in (placements_at placements j) x y ≡ is_met (side_at sides j).cells (is_in region) x y

pub placed_none : (sides : List SideWeight) (region : List Strip) (placements : List (List Strip)) → placements ≡ [] → ArePlaced sides region 0 placements
placed_none sides region placements e = record { each = ap (λ xs. length xs) e; cells = λ j lt. absurd (omega (arith, lt)) }

pub placed_more : (sides : List SideWeight) (region : List Strip) (k : ℕ) (old new : List (List Strip)) (grown : List Strip) → ArePlaced sides region k old
    → ((x y : ℤ) → is_in grown x y ≡ is_met (side_at sides k).cells (is_in region) x y) → new ≡ old ++ grown ∷ [] → ArePlaced sides region (k + 1) new
placed_more sides region k old new grown so_far here e =
    subst (λ xs. ArePlaced sides region (k + 1) xs) (sym e)
    (record {
      each = length_push old grown ∙ ap (λ n. n + 1) so_far.each;
      cells = λ j lt. elim (last_or_before j k lt) [
        | inl before ↦ λ x y.
            ap (λ s. is_in s x y) (get_or_append_left old (grown ∷ []) [] j (omega (arith, before, so_far.each))) ∙ so_far.cells j before x y
        | inr same ↦ λ x y.
            ap (λ s. is_in s x y) (get_or_push old grown [] j (so_far.each ∙ sym same)) ∙ here x y ∙ ap (λ n. is_met (side_at sides n).cells (is_in region) x y) (sym same)
      ];
    })

pub placed_all : (sides : List SideWeight) (region : List Strip) (k : ℕ) (placements : List (List Strip)) → length sides ≤ k → k ≤ length sides → ArePlaced sides region k placements
    → ArePlacements sides region placements
placed_all sides region k placements le ge h = record { each = omega (arith, h.each, le, ge); cells = λ j lt. h.cells j (omega (arith, lt, le)) }

-- all of them lie near the layout
pub placements_near : (sides : List SideWeight) (region : List Strip) (placements : List (List Strip)) → AreSides sides → AreStripsWithin (2 ^ 24) region → ArePlacements sides region placements
    → AreNear placements
placements_near sides region placements are within h =
    record {
      cells = λ j x y e. elim (cases_lt j (length placements)) [
        | inl lt ↦
            let side = side_of_all sides j (omega (arith, lt, h.each)) are in
            met_near (2 ^ 24) (2 ^ 16) (side_at sides j).cells region x y (omega arith) side.some (omega (arith, side.small)) within (sym (h.cells j (omega (arith, lt, h.each)) x y) ∙ e)
        | inr past ↦ absurd (false≢true (ap (λ s. is_in s x y) (sym (get_or_past placements j [] past)) ∙ e))
      ];
    }
