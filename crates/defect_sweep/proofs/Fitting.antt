-- Counts fit.
use Rattle.std.proofs.Common.{ℕ, ◌+◌, ◌-◌, ◌*◌, ◌<◌, ◌≤◌, ◌^◌, nat_lt, ◌&&◌, inl, inr, List, [], length, map, subst, sym, arith}
use Rattle.std.specs.Prelude.{slice_index_or}
use Rattle.std.specs.List.{All, range_with_len}
use Rattle.std.proofs.lemmas.Nat.{mul-le}
use Rattle.std.proofs.lemmas.List.{get_or_past}
use Rattle.std.proofs.lemmas.List.Elements.{All-filter, All-map}
use Rattle.std.proofs.lemmas.List.FromFn.{length-range_with_len}
use Rattle.std.proofs.lemmas.List.Sums.{sum_by-le}
use Rattle.plane_geom.specs.Cells.{is_met}
use Rattle.layer_map.specs.declared.map.WireId.{WireId}
use Rattle.mask_region.specs.declared.strips.Strip.{Strip}
use Rattle.mask_region.specs.Strips.{is_in, AreStripsWithin, AreRegionsWithin}
use Rattle.switch_net.specs.Pairs.{NetPair}
use Rattle.defect_sweep.specs.declared.sides.SideWeight.{SideWeight}
use Rattle.defect_sweep.specs.Sides.{IsSide, AreSides}
use Rattle.defect_sweep.specs.Counting.{BridgeCount, placements_on_both, weighted, count_of, count_on, counts_of, pairs_below, region_at}
use Rattle.defect_sweep.specs.Bridges.{IsFitting}
use Rattle.defect_sweep.proofs.Near.{count_within, met_near}
use Rattle.std.proofs.lemmas.Bool.{cases_lt, and_parts}

side_small : (s : SideWeight) (a b : List Strip) → IsSide s → AreStripsWithin (2 ^ 24) a → s.weight * placements_on_both s.cells (is_in a) (is_in b) ≤ 30 * 2 ^ 51
side_small s a b side within =
    let few =
    count_within (2 ^ 24 + 2 ^ 16) (λ x y. is_met s.cells (is_in a) x y && is_met s.cells (is_in b) x y) (omega arith)
    (λ x y h. met_near (2 ^ 24) (2 ^ 16) s.cells a x y (omega arith) side.some (omega (arith, side.small)) within (and_parts (is_met s.cells (is_in a) x y) (is_met s.cells (is_in b) x y) h).0)
    in
    mul-le s.weight (placements_on_both s.cells (is_in a) (is_in b)) 30 (2 ^ 51) side.light (omega (arith, few))

weighted_small : (sides : List SideWeight) (a b : List Strip) → AreSides sides → AreStripsWithin (2 ^ 24) a → weighted sides (is_in a) (is_in b) < 2 ^ 59
weighted_small sides a b are within =
    let sum =
    sum_by-le (λ s. s.weight * placements_on_both s.cells (is_in a) (is_in b)) (30 * 2 ^ 51) sides
    (λ k d lt. side_small (slice_index_or sides k d) a b (are.each k d lt) within)
    in
    omega (arith, sum, mul-le (length sides) (30 * 2 ^ 51) 8 (30 * 2 ^ 51) are.few (omega arith))

near_at : (regions : List (List Strip)) (k : ℕ) → AreRegionsWithin (2 ^ 24) regions → AreStripsWithin (2 ^ 24) (slice_index_or regions k [])
near_at regions k within = elim (cases_lt k (length regions)) [
  | inl lt ↦ within.each k [] lt
  | inr past ↦ subst (λ r. AreStripsWithin (2 ^ 24) r) (sym (get_or_past regions k [] past)) (record { each = λ j d lt. absurd (omega (arith, lt)) })
]

wire_small : (sides : List SideWeight) (wires : ℕ) (regions : List (List Strip)) (pair : NetPair) (wire : ℕ) → AreSides sides → AreRegionsWithin (2 ^ 24) regions → count_on sides wires regions pair wire < 2 ^ 59
wire_small sides wires regions pair wire are within =
    weighted_small sides (region_at wires regions pair.a.0 wire) (region_at wires regions pair.b.0 wire) are (near_at regions (pair.a.0 * wires + wire) within)

fits_pair : (sides : List SideWeight) (wires : ℕ) (regions : List (List Strip)) (pair : NetPair) → AreSides sides → wires ≤ 16 → AreRegionsWithin (2 ^ 24) regions
    → IsFitting (count_of wires pair (count_on sides wires regions pair))
fits_pair sides wires regions pair are few within =
    let on : ℕ → ℕ = count_on sides wires regions pair in
    let small : (wire : ℕ) → on wire < 2 ^ 59 = λ wire. wire_small sides wires regions pair wire are within in
    let sum = sum_by-le on (2 ^ 59 - 1) (range_with_len 0 wires) (λ k d lt. omega (arith, small (slice_index_or (range_with_len 0 wires) k d))) in
    record {
      total = omega (arith, sum, length-range_with_len 0 wires, mul-le (length (range_with_len 0 wires)) (2 ^ 59 - 1) 16 (2 ^ 59 - 1) (omega (arith, few, length-range_with_len 0 wires)) (omega arith));
      on = All-filter (λ (c : WireId × ℕ). nat_lt 0 c.1) (λ (c : WireId × ℕ). c.1 < 2 ^ 59) (map (λ wire. (record { 0 = wire }, on wire)) (range_with_len 0 wires))
          (All-map (λ (c : WireId × ℕ). c.1 < 2 ^ 59) (λ wire. (record { 0 = wire }, on wire)) (range_with_len 0 wires) (λ k d lt. small (slice_index_or (range_with_len 0 wires) k d)));
    }

pub counts_fit : (sides : List SideWeight) (nets wires : ℕ) (regions : List (List Strip)) → AreSides sides → wires ≤ 16 → AreRegionsWithin (2 ^ 24) regions → All IsFitting (counts_of sides nets wires regions)
counts_fit sides nets wires regions are few within =
    let count : NetPair → BridgeCount = λ pair. count_of wires pair (count_on sides wires regions pair) in
    All-filter (λ c. nat_lt 0 c.total) IsFitting (map count (pairs_below nets))
    (All-map IsFitting count (pairs_below nets) (λ k d lt. fits_pair sides wires regions (slice_index_or (pairs_below nets) k d) are few within))
