-- Counts: how many placements of the defects meet two nets, and the list of the pairs that some placement meets.
use Rattle.std.specs.Prelude.{ℕ, ◌+◌, ◌-◌, ◌*◌, ℤ, Bool, ◌&&◌, nat_lt, List, [], map, filter, flat_map, sum_by, slice_index_or}
use Rattle.std.specs.List.{range_with_len}
use Rattle.plane_geom.specs.Cells.{is_met, count_cells}
use Rattle.layer_map.specs.declared.map.WireId.{WireId}
use Rattle.mask_region.specs.declared.strips.Strip.{Strip}
use Rattle.mask_region.specs.Strips.{is_in}
use Rattle.switch_net.specs.Pairs.{NetPair}
use Rattle.defect_sweep.specs.declared.sides.SideWeight.{SideWeight}

-- ---- two sets of cells

-- how many placements of a square of so many cells a side meet both sets: those that have a cell of each
abbrev pub placements_on_both : ℕ → (ℤ → ℤ → Bool) → (ℤ → ℤ → Bool) → ℕ
placements_on_both cells a b = count_cells (λ x y. is_met cells a x y && is_met cells b x y)

-- the same for all sides, each placement as often as the weight of its side says
abbrev pub weighted : List SideWeight → (ℤ → ℤ → Bool) → (ℤ → ℤ → Bool) → ℕ
weighted sides a b = sum_by (λ s. s.weight * placements_on_both s.cells a b) sides

-- ---- the list of pairs, by their counts on each wire

-- the count of a pair of nets: on each wire where it is above 0, in the order of the wires, and in all
pub record BridgeCount : Type 0 where
  pub pair : NetPair
  pub total : ℕ
  pub on : List (WireId × ℕ)

-- the count of a pair, by the numbers on each of so many wires
abbrev pub count_of : ℕ → NetPair → (ℕ → ℕ) → BridgeCount
count_of wires pair on = record {
  pair = pair;
  total = sum_by on (range_with_len 0 wires);
  on = filter (λ c. nat_lt 0 c.1) (map (λ wire. (record { 0 = wire }, on wire)) (range_with_len 0 wires));
}

abbrev pub pair_of : ℕ → ℕ → NetPair
pair_of a b = record { a = record { 0 = a }; b = record { 0 = b } }

-- a net with each of the later nets, of so many nets in all
abbrev pub pairs_with : ℕ → ℕ → List NetPair
pairs_with nets a = map (λ b. pair_of a b) (range_with_len (a + 1) (nets - (a + 1)))

-- all pairs of so many nets in order, each with the smaller number first
abbrev pub pairs_below : ℕ → List NetPair
pairs_below nets = flat_map (λ a. pairs_with nets a) (range_with_len 0 nets)

-- the pairs with a total above 0
abbrev pub listed : List BridgeCount → List BridgeCount
listed counts = filter (λ c. nat_lt 0 c.total) counts

-- ---- nets by their regions

-- the cells of a net on a wire, where each net has a region for each of so many wires, one net after the other
abbrev pub region_at : ℕ → List (List Strip) → ℕ → ℕ → List Strip
region_at wires regions net wire = slice_index_or regions (net * wires + wire) []

-- how many placements meet both nets of a pair on a wire
abbrev pub count_on : List SideWeight → ℕ → List (List Strip) → NetPair → ℕ → ℕ
count_on sides wires regions pair wire = weighted sides (is_in (region_at wires regions pair.a.0 wire)) (is_in (region_at wires regions pair.b.0 wire))

-- The pairs of nets that some placement meets on a wire, in order, with their counts.
abbrev pub counts_of : List SideWeight → ℕ → ℕ → List (List Strip) → List BridgeCount
counts_of sides nets wires regions = listed (map (λ pair. count_of wires pair (count_on sides wires regions pair)) (pairs_below nets))
