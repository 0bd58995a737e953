-- Nets have one list of counts.
use Rattle.std.proofs.Common.{◌≡◌, ℕ, ◌+◌, ◌*◌, ◌<◌, List, [], length, sym, ap, ◌∙◌, arith}
use Rattle.std.proofs.lemmas.Nat.{mul-add-lt}
use Rattle.std.proofs.lemmas.Option.{slice_get-get_or}
use Rattle.mask_region.specs.declared.strips.Strip.{Strip}
use Rattle.net_trace.specs.Touching.{Nets}
use Rattle.net_trace.specs.Nets.{IsNetCount, AreRegionsOf, IsRegionOf}
use Rattle.net_trace.proofs.NetNumbers.{net_count, net_region}
use Rattle.defect_sweep.specs.declared.sides.SideWeight.{SideWeight}
use Rattle.defect_sweep.specs.Counting.{BridgeCount, weighted, region_at, count_on, counts_of}
use Rattle.defect_sweep.specs.Bridges.{AreCounts, HasManyBridges}
use Rattle.defect_sweep.proofs.Listing.{listed_agree}

region_is : (nets : Nets) (regions : List (List Strip)) (are : AreRegionsOf nets regions) (net wire : ℕ) → net < are.count → wire < length nets.wires
    → IsRegionOf nets net wire (region_at (length nets.wires) regions net wire)
region_is nets regions are net wire lt less =
    are.region net wire (region_at (length nets.wires) regions net wire) lt less
    (slice_get-get_or regions (net * length nets.wires + wire) [] (omega (arith, are.each, mul-add-lt net (length nets.wires) wire are.count lt less)))

by_regions : (nets : Nets) (sides : List SideWeight) (regions others : List (List Strip)) (are : AreRegionsOf nets regions) (also : AreRegionsOf nets others)
    → counts_of sides are.count (length nets.wires) regions ≡ counts_of sides are.count (length nets.wires) others
by_regions nets sides regions others are also =
    let wires : ℕ = length nets.wires in
    let same : are.count ≡ also.count = net_count nets are.count also.count are.is_count also.is_count in
    listed_agree are.count wires (λ pair. count_on sides wires regions pair) (λ pair. count_on sides wires others pair)
    (λ a b wire before within lt.
    let first =
    net_region nets a wire (region_at wires regions a wire) (region_at wires others a wire)
    (region_is nets regions are a wire (omega (arith, before, within)) lt) (region_is nets others also a wire (omega (arith, before, within, same)) lt)
    in
    let second =
    net_region nets b wire (region_at wires regions b wire) (region_at wires others b wire) (region_is nets regions are b wire within lt)
    (region_is nets others also b wire (omega (arith, within, same)) lt)
    in
    λ i. weighted sides (first i) (second i))

pub one_counting : (nets : Nets) (sides : List SideWeight) (counts others : List BridgeCount) → AreCounts nets sides counts → AreCounts nets sides others → counts ≡ others
one_counting nets sides counts others h k =
    let same : h.are.count ≡ k.are.count = net_count nets h.are.count k.are.count h.are.is_count k.are.is_count in
    h.is ∙ by_regions nets sides h.regions k.regions h.are k.are ∙ ap (λ n. counts_of sides n (length nets.wires) k.regions) same ∙ sym k.is

pub many : (nets : Nets) (sides : List SideWeight) (counts : List BridgeCount) → AreCounts nets sides counts → HasManyBridges nets sides → 65536 < length counts
many nets sides counts h m = omega (arith, m.many, ap (λ xs. length xs) (one_counting nets sides counts m.list h m.are))

pub counts_by_regions : (nets : Nets) (sides : List SideWeight) (regions : List (List Strip)) (count : ℕ) → AreRegionsOf nets regions → IsNetCount nets count
    → AreCounts nets sides (counts_of sides count (length nets.wires) regions)
counts_by_regions nets sides regions count are is =
    record {
      regions = regions;
      are = are;
      is = ap (λ n. counts_of sides n (length nets.wires) regions) (net_count nets count are.count is are.is_count);
    }
