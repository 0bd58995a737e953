-- The counts of traced nets, by their regions.
use Rattle.std.proofs.Common.{◌≡◌, ℕ, ◌<◌, ◌+◌, ◌*◌, List, length, Some, slice_get, refl, sym, ◌∙◌, ap, subst}
use Rattle.mask_region.specs.declared.strips.Strip.{Strip}
use Rattle.net_trace.specs.Touching.{Nets}
use Rattle.net_trace.specs.Nets.{node_at, IsRegionOf, IsNetCount, AreRegionsOf}
use Rattle.net_trace.specs.Same.{AreSameNets}
use Rattle.defect_sweep.specs.declared.sides.SideWeight.{SideWeight}
use Rattle.defect_sweep.specs.Counting.{BridgeCount, counts_of}
use Rattle.defect_sweep.specs.Bridges.{AreCounts, HasManyBridges}
use Rattle.net_trace.proofs.NetNumbers.{net_count}
use Rattle.defect_sweep.proofs.OneCounting.{one_counting, counts_by_regions}

pub whole : (nets : Nets) (regions : List (List Strip)) (count wires : ℕ) → AreRegionsOf nets regions → IsNetCount nets count → wires ≡ length nets.wires → length regions ≡ count * wires
whole nets regions count wires are counted is = are.each ∙ (λ i. net_count nets are.count count are.is_count counted i * sym is i)

pub are_counts : (nets : Nets) (sides : List SideWeight) (regions : List (List Strip)) (count wires : ℕ) (list : List BridgeCount) → AreRegionsOf nets regions → IsNetCount nets count → wires ≡ length nets.wires
    → list ≡ counts_of sides count wires regions → AreCounts nets sides list
are_counts nets sides regions count wires list are counted is same =
    subst (λ l. AreCounts nets sides l) (sym (same ∙ ap (λ w. counts_of sides count w regions) is)) (counts_by_regions nets sides regions count are counted)

pub are_many : (nets : Nets) (sides : List SideWeight) (regions : List (List Strip)) (count wires : ℕ) → AreRegionsOf nets regions → IsNetCount nets count → wires ≡ length nets.wires
    → 65536 < length (counts_of sides count wires regions) → HasManyBridges nets sides
are_many nets sides regions count wires are counted is many = record {
  list = counts_of sides count wires regions;
  are = are_counts nets sides regions count wires _ are counted is refl;
  many = many;
}

-- ---- nets that are the same

region_same : (a b : Nets) (net wire : ℕ) (r : List Strip) → AreSameNets a b → IsRegionOf a net wire r → IsRegionOf b net wire r
region_same a b net wire r same h = record {
  inside = λ x y is. same.number (node_at wire x y) net (h.inside x y is);
  whole = λ x y is. h.whole x y (same.back (node_at wire x y) net is);
}

regions_same : (a b : Nets) (regions : List (List Strip)) → AreSameNets a b → AreRegionsOf a regions → AreRegionsOf b regions
regions_same a b regions same h = record {
  count = h.count;
  is_count = same.count h.count h.is_count;
  each = h.each ∙ ap (λ w. h.count * w) same.wires;
  region = λ net wire r lt less at. region_same a b net wire r same (h.region net wire r lt (subst (λ w. wire < w) (sym same.wires) less) (subst (λ w. slice_get regions (net * w + wire) ≡ Some r) (sym same.wires) at));
}

counts_same : (a b : Nets) (sides : List SideWeight) (list : List BridgeCount) → AreSameNets a b → AreCounts a sides list → AreCounts b sides list
unfolding regions_same
counts_same a b sides list same h = record {
  regions = h.regions;
  are = regions_same a b h.regions same h.are;
  is = h.is ∙ ap (λ w. counts_of sides h.are.count w h.regions) same.wires;
}

-- Nets that are the same have one list of counts.
pub counts_alike : (a b : Nets) (sides : List SideWeight) (c d : List BridgeCount) → AreSameNets a b → AreCounts a sides c → AreCounts b sides d → c ≡ d
counts_alike a b sides c d same here there = one_counting b sides c d (counts_same a b sides c same here) there

pub many_alike : (a b : Nets) (sides : List SideWeight) → AreSameNets a b → HasManyBridges a sides → HasManyBridges b sides
many_alike a b sides same h = record { list = h.list; are = counts_same a b sides h.list same h.are; many = h.many }
