-- What the sweep keeps of each net: the placements that meet it, for each wire and side, and rectangles that hold them.
-- No promise of the crate cites these words.
use Rattle.std.specs.Prelude.{◌≡◌, ℕ, ◌+◌, ◌*◌, ◌<◌, ◌^◌, ℤ, pos, true, false, ◌&&◌, nat_lt, if◌then◌else◌, List, [], ◌∷◌, length, map, sum_by, slice_index_or}
use Rattle.std.specs.List.{range_with_len}
use Rattle.plane_geom.specs.declared.shapes.Rect.{Rect}
use Rattle.plane_geom.specs.Cells.{is_in_rect, is_met, count_cells}
use Rattle.layer_map.specs.declared.map.WireId.{WireId}
use Rattle.mask_region.specs.declared.strips.Strip.{Strip}
use Rattle.mask_region.specs.Strips.{is_in, is_in_strip, IsCellWithin}
use Rattle.switch_net.specs.Pairs.{NetPair}
use Rattle.defect_sweep.specs.declared.sides.SideWeight.{SideWeight}
use Rattle.defect_sweep.specs.Sides.{side_at}
use Rattle.defect_sweep.specs.Counting.{BridgeCount, count_of, listed, pairs_with, region_at}

-- ---- rectangles

-- All cells of one rectangle are in the other.
pub record Holds (outer inner : Rect) : Type 0 where
  pub cells : (x y : ℤ) → is_in_rect inner x y ≡ true → is_in_rect outer x y ≡ true

pub record HoldsStrip (outer : Rect) (s : Strip) : Type 0 where
  pub cells : (x y : ℤ) → is_in_strip s x y ≡ true → is_in_rect outer x y ≡ true

pub record HoldsStrips (outer : Rect) (strips : List Strip) : Type 0 where
  pub cells : (x y : ℤ) → is_in strips x y ≡ true → is_in_rect outer x y ≡ true

-- The rectangles have no cell in common.
pub record AreApart (a b : Rect) : Type 0 where
  pub cells : (x y : ℤ) → (is_in_rect a x y && is_in_rect b x y) ≡ false

-- ---- a net on a wire

-- the placements that meet it, for each side, and a rectangle that holds them
pub record Reach : Type 0 where
  pub placements : List (List Strip)
  pub bounds : Rect

abbrev pub placements_at : List (List Strip) → ℕ → List Strip
placements_at placements k = slice_index_or placements k []

-- No placement lies far from the layout.
pub record AreNear (placements : List (List Strip)) : Type 0 where
  pub cells : (k : ℕ) (x y : ℤ) → is_in (placements_at placements k) x y ≡ true → IsCellWithin (2 ^ 24 + 2 ^ 16) x y

-- The rectangle holds the placements of each side.
pub record HoldsAll (bounds : Rect) (placements : List (List Strip)) : Type 0 where
  pub each : (k : ℕ) → HoldsStrips bounds (placements_at placements k)

pub record IsReach (r : Reach) : Type 0 where
  pub near : AreNear r.placements
  pub held : HoldsAll r.bounds r.placements

-- For each side they are the placements that meet the region.
pub record ArePlacements (sides : List SideWeight) (region : List Strip) (placements : List (List Strip)) : Type 0 where
  pub each : length placements ≡ length sides
  pub cells : (k : ℕ) → k < length sides → (x y : ℤ) → is_in (placements_at placements k) x y ≡ is_met (side_at sides k).cells (is_in region) x y

-- how many placements of one side are among both, as often as the weight of the side says
abbrev pub side_meets : List SideWeight → List (List Strip) → List (List Strip) → ℕ → ℕ
side_meets sides a b k = (side_at sides k).weight * count_cells (λ x y. is_in (placements_at a k) x y && is_in (placements_at b k) x y)

-- the same for the first n sides
abbrev pub first_meets : ℕ → List SideWeight → List (List Strip) → List (List Strip) → ℕ
first_meets n sides a b = sum_by (λ k. side_meets sides a b k) (range_with_len 0 n)

abbrev pub meets : List SideWeight → List (List Strip) → List (List Strip) → ℕ
meets sides a b = first_meets (length sides) sides a b

-- ---- a net

-- what it reaches on each wire, and a rectangle that holds it
pub record Reaches : Type 0 where
  pub on : List Reach
  pub bounds : Rect

abbrev pub no_reach : Reach
no_reach = record { placements = []; bounds = record { x0 = pos 0; y0 = pos 0; x1 = pos 0; y1 = pos 0 } }

abbrev pub reach_at : List Reach → ℕ → Reach
reach_at on wire = slice_index_or on wire no_reach

pub record AreReaches (r : Reaches) : Type 0 where
  pub held : (wire : ℕ) → HoldsAll r.bounds (reach_at r.on wire).placements

-- On each of so many wires it reaches the placements that meet its region there.
pub record AreReachesOf (sides : List SideWeight) (wires : ℕ) (region : ℕ → List Strip) (on : List Reach) : Type 0 where
  pub each : length on ≡ wires
  pub at : (wire : ℕ) → wire < wires → ArePlacements sides (region wire) (reach_at on wire).placements

-- On each wire there are placements for each side.
pub record AreForSides (sides : List SideWeight) (on : List Reach) : Type 0 where
  pub each : (wire : ℕ) → wire < length on → length (reach_at on wire).placements ≡ length sides

-- how many placements are among both on a wire
abbrev pub wire_meets : List SideWeight → List Reach → List Reach → ℕ → ℕ
wire_meets sides a b wire = meets sides (reach_at a wire).placements (reach_at b wire).placements

abbrev pub meets_on : List SideWeight → Reaches → Reaches → ℕ → ℕ
meets_on sides a b wire = wire_meets sides a.on b.on wire

-- a count on a wire, where it is above 0
abbrev pub above_0 : ℕ → ℕ → List (WireId × ℕ)
above_0 wire count = if nat_lt 0 count then (record { 0 = wire }, count) ∷ [] else []

-- ---- all nets

abbrev pub no_reaches : Reaches
no_reaches = record { on = []; bounds = record { x0 = pos 0; y0 = pos 0; x1 = pos 0; y1 = pos 0 } }

abbrev pub net_at : List Reaches → ℕ → Reaches
net_at nets net = slice_index_or nets net no_reaches

-- Each net reaches the placements that meet its regions.
pub record AreSpread (sides : List SideWeight) (wires : ℕ) (regions : List (List Strip)) (nets : List Reaches) : Type 0 where
  pub at : (net : ℕ) → net < length nets → AreReachesOf sides wires (region_at wires regions net) (net_at nets net).on

-- how many placements are among those of both nets on a wire
abbrev pub pair_meets : List SideWeight → List Reaches → NetPair → ℕ → ℕ
pair_meets sides nets pair wire = meets_on sides (net_at nets pair.a.0) (net_at nets pair.b.0) wire

-- Each net reaches placements on each wire, for each side.
pub record AreForAll (sides : List SideWeight) (wires : ℕ) (nets : List Reaches) : Type 0 where
  pub each : (net : ℕ) → net < length nets → length (net_at nets net).on ≡ wires
  pub sided : (net : ℕ) → net < length nets → AreForSides sides (net_at nets net).on

-- the count of a pair, by what its nets reach
abbrev pub pair_count : List SideWeight → ℕ → List Reaches → NetPair → BridgeCount
pair_count sides wires nets pair = count_of wires pair (pair_meets sides nets pair)

-- the counts above 0 of a net with each later net
abbrev pub row_of : List SideWeight → ℕ → List Reaches → ℕ → List BridgeCount
row_of sides wires nets a = listed (map (λ pair. pair_count sides wires nets pair) (pairs_with (length nets) a))
