-- Counts have one ranked list.
use Rattle.std.proofs.Common.{◌≡◌, ℕ, List, length, map, refl, sym, ap, ◌∙◌}
use Rattle.std.specs.List.{All}
use Rattle.std.specs.Cmp.{IsTotalOrder}
use Rattle.std.specs.Ordering.{nat_cmp, ordering_then}
use Rattle.std.specs.declared.cmp.Ordering.{Ordering}
use Rattle.std.specs.declared.cmp.Ordering.TheVariants.{Less, Equal, Greater}
use Rattle.std.specs.Prelude.{nat_lt}
use Rattle.std.specs.FinMap.{nat_cmp-IsAntisymmetric}
use Rattle.std.proofs.lemmas.Cmp.{then_total, on_total, back_total, nat_cmp_total}
use Rattle.std.proofs.lemmas.List.Elements.{All-filter, All-map, All-same}
use Rattle.std.proofs.lemmas.List.Sorted.{All-permutation}
use Rattle.mask_region.specs.declared.strips.Strip.{Strip}
use Rattle.net_trace.specs.Touching.{Nets}
use Rattle.defect_sweep.specs.declared.sides.SideWeight.{SideWeight}
use Rattle.switch_net.specs.Pairs.{NetPair}
use Rattle.defect_sweep.specs.Counting.{BridgeCount, count_of, count_on, counts_of, pairs_below}
use Rattle.defect_sweep.specs.Bridges.{AreCounts}
use Rattle.bridge_rank.specs.Ranking.{rank_order, IsRanked}
use Rattle.bridge_rank.proofs.OneOrder.{one_order}

pub rank_order_total : IsTotalOrder (λ (p q : BridgeCount). rank_order p q)
rank_order_total =
    then_total (on_total (λ (p : BridgeCount). p.total) (back_total nat_cmp_total))
    (then_total (on_total (λ (p : BridgeCount). p.pair.a.0) nat_cmp_total) (on_total (λ (p : BridgeCount). p.pair.b.0) nat_cmp_total))

then_first : (r s : Ordering) → ordering_then r s ≡ Equal → r ≡ Equal
then_first Less s tie = cc
then_first Equal s tie = λ i. Equal
then_first Greater s tie = cc

then_second : (r s : Ordering) → ordering_then r s ≡ Equal → s ≡ Equal
then_second Less s tie = cc
then_second Equal s tie = tie
then_second Greater s tie = cc

-- counts that rank alike are of one pair
same_pair : (p q : BridgeCount) → rank_order p q ≡ Equal → p.pair ≡ q.pair
same_pair p q tie =
    let nets = then_second (nat_cmp q.total p.total) _ tie in
    let firsts : p.pair.a.0 ≡ q.pair.a.0 = nat_cmp-IsAntisymmetric p.pair.a.0 q.pair.a.0 (then_first _ _ nets) in
    let seconds : p.pair.b.0 ≡ q.pair.b.0 = nat_cmp-IsAntisymmetric p.pair.b.0 q.pair.b.0 (then_second (nat_cmp p.pair.a.0 q.pair.a.0) _ nets) in
    λ i. record { a = record { 0 = firsts i }; b = record { 0 = seconds i } }

-- the count is that of its pair
abbrev IsOwn : List SideWeight → ℕ → List (List Strip) → BridgeCount → Type 0
IsOwn sides wires regions c = c ≡ count_of wires c.pair (count_on sides wires regions c.pair)

same_count : (sides : List SideWeight) (wires : ℕ) (regions : List (List Strip)) (p q : BridgeCount) → IsOwn sides wires regions p → IsOwn sides wires regions q → rank_order p q ≡ Equal → p ≡ q
same_count sides wires regions p q own other tie =
    own ∙ ap (λ pair. count_of wires pair (count_on sides wires regions pair)) (same_pair p q tie) ∙ sym other

all_own : (sides : List SideWeight) (nets wires : ℕ) (regions : List (List Strip)) → All (IsOwn sides wires regions) (counts_of sides nets wires regions)
all_own sides nets wires regions =
    let count : NetPair → BridgeCount = λ pair. count_of wires pair (count_on sides wires regions pair) in
    All-filter (λ c. nat_lt 0 c.total) (IsOwn sides wires regions) (map count (pairs_below nets))
    (All-map (IsOwn sides wires regions) count (pairs_below nets) (λ k d less. refl))

pub one_ranking : (nets : Nets) (sides : List SideWeight) (counts ranked others : List BridgeCount) → AreCounts nets sides counts → IsRanked counts ranked → IsRanked counts others → ranked ≡ others
one_ranking nets sides counts ranked others are here there =
    let wires : ℕ = length nets.wires in
    let own : BridgeCount → Type 0 = IsOwn sides wires are.regions in
    let all : All own counts = All-same own counts (counts_of sides are.are.count wires are.regions) are.is (all_own sides are.are.count wires are.regions) in
    one_order (λ p q. rank_order p q) rank_order_total own (same_count sides wires are.regions) counts ranked others here.same there.same here.order there.order
    (All-permutation own counts ranked here.same all) (All-permutation own counts others there.same all)
