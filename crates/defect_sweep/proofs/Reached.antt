-- What a net reaches, wire by wire.
use Rattle.std.proofs.Common.{◌≡◌, ℕ, ◌+◌, ◌*◌, ◌<◌, ◌≤◌, ◌^◌, nat_lt, List, [], ◌∷◌, ◌++◌, length, get_or, map, filter, refl, sym, ap, ◌∙◌, subst, arith, inl, inr}
use Rattle.std.specs.Prelude.{slice_index_or, sum_by}
use Rattle.std.specs.List.{range_with_len}
use Rattle.std.proofs.lemmas.List.{get_or_past, get_or_append_left, get_or_push, length_push, get_or_read}
use Rattle.std.proofs.lemmas.List.FromFn.{filter_of_map_range_with_len_more}
use Rattle.plane_geom.specs.declared.shapes.Rect.{Rect}
use Rattle.layer_map.specs.declared.map.WireId.{WireId}
use Rattle.mask_region.specs.declared.strips.Strip.{Strip}
use Rattle.defect_sweep.specs.declared.sides.SideWeight.{SideWeight}
use Rattle.switch_net.specs.Pairs.{NetPair}
use Rattle.defect_sweep.specs.Counting.{count_of}
use Rattle.defect_sweep.specs.Reaching.{Holds, HoldsAll, Reach, no_reach, reach_at, placements_at, ArePlacements, AreReachesOf, AreForSides, meets, wire_meets, above_0}
use Rattle.defect_sweep.proofs.Holding.{wider, strips_none}
use Rattle.defect_sweep.proofs.Meeting.{sum_more}
use Rattle.net_trace.proofs.Lists.{last_or_before}
use Rattle.std.proofs.lemmas.Bool.{cases_lt}

-- what a net with these regions reaches on the first k wires
pub record AreReached (sides : List SideWeight) (regions : List (List Strip)) (k : ℕ) (on : List Reach) (bounds : Rect) : Type 0 where
  pub each : length on ≡ k
  pub at : (wire : ℕ) → wire < k → ArePlacements sides (slice_index_or regions wire []) (reach_at on wire).placements
  pub held : (wire : ℕ) → wire < k → HoldsAll bounds (reach_at on wire).placements

pub reached_none : (sides : List SideWeight) (regions : List (List Strip)) (on : List Reach) (bounds : Rect) → on ≡ [] → AreReached sides regions 0 on bounds
reached_none sides regions on bounds e = record { each = ap (λ xs. length xs) e; at = λ wire lt. absurd (omega (arith, lt)); held = λ wire lt. absurd (omega (arith, lt)) }

all_wider : (new old : Rect) (placements : List (List Strip)) → Holds new old → HoldsAll old placements → HoldsAll new placements
all_wider new old placements h held = record { each = λ k. wider old new (placements_at placements k) h (held.each k) }

pub reached_more : (sides : List SideWeight) (regions : List (List Strip)) (k : ℕ) (old new : List Reach) (b0 b1 rect : Rect) (r : Reach) → AreReached sides regions k old b0 → Holds b1 b0
    → Holds b1 rect → HoldsAll rect r.placements → ArePlacements sides (slice_index_or regions k []) r.placements → new ≡ old ++ r ∷ [] → AreReached sides regions (k + 1) new b1
reached_more sides regions k old new b0 b1 rect r so_far first second held here e =
    let last : (wire : ℕ) → wire ≡ k → reach_at (old ++ r ∷ []) wire ≡ r = λ wire same. get_or_push old r no_reach wire (so_far.each ∙ sym same) in
    let before : (wire : ℕ) → wire < k → reach_at (old ++ r ∷ []) wire ≡ reach_at old wire = λ wire lt. get_or_append_left old (r ∷ []) no_reach wire (omega (arith, lt, so_far.each)) in
    subst (λ xs. AreReached sides regions (k + 1) xs b1) (sym e)
    (record {
      each = length_push old r ∙ ap (λ n. n + 1) so_far.each;
      at = λ wire lt. elim (last_or_before wire k lt) [
        | inl less ↦ subst (λ q. ArePlacements sides (slice_index_or regions wire []) q.placements) (sym (before wire less)) (so_far.at wire less)
        | inr same ↦ subst (λ q. ArePlacements sides (slice_index_or regions wire []) q.placements) (sym (last wire same))
            (subst (λ n. ArePlacements sides (slice_index_or regions n []) r.placements) (sym same) here)
      ];
      held = λ wire lt. elim (last_or_before wire k lt) [
        | inl less ↦ subst (λ q. HoldsAll b1 q.placements) (sym (before wire less)) (all_wider b1 b0 (reach_at old wire).placements first (so_far.held wire less))
        | inr same ↦ subst (λ q. HoldsAll b1 q.placements) (sym (last wire same)) (all_wider b1 rect r.placements second held)
      ];
    })

nothing_held : (bounds : Rect) → HoldsAll bounds []
nothing_held bounds = record { each = λ k. strips_none bounds }

-- also on wires that there are none of
pub reached_held : (sides : List SideWeight) (regions : List (List Strip)) (k : ℕ) (on : List Reach) (bounds : Rect) → AreReached sides regions k on bounds → (wire : ℕ)
    → HoldsAll bounds (reach_at on wire).placements
reached_held sides regions k on bounds h wire = elim (cases_lt wire (length on)) [
  | inl lt ↦ h.held wire (omega (arith, lt, h.each))
  | inr past ↦ subst (λ q. HoldsAll bounds q.placements) (sym (get_or_past on wire no_reach past)) (nothing_held bounds)
]

pub reached_all : (sides : List SideWeight) (regions : List (List Strip)) (k : ℕ) (on : List Reach) (bounds : Rect) → length regions ≤ k → k ≤ length regions → AreReached sides regions k on bounds
    → AreReachesOf sides (length regions) (λ wire. slice_index_or regions wire []) on
reached_all sides regions k on bounds le ge h = record { each = omega (arith, h.each, le, ge); at = λ wire lt. h.at wire (omega (arith, lt, le)) }

-- ---- the count of a pair

-- the sum and the list of the first k wires
pub record AreCounted (sides : List SideWeight) (first second : List Reach) (k total : ℕ) (on : List (WireId × ℕ)) : Type 0 where
  pub sum : total ≡ sum_by (wire_meets sides first second) (range_with_len 0 k)
  pub list : on ≡ filter (λ c. nat_lt 0 c.1) (map (λ wire. (record { 0 = wire }, wire_meets sides first second wire)) (range_with_len 0 k))
  pub small : total ≤ k * 2 ^ 59

pub counted_none : (sides : List SideWeight) (first second : List Reach) (on : List (WireId × ℕ)) → on ≡ [] → AreCounted sides first second 0 0 on
counted_none sides first second on e = record { sum = refl; list = e; small = omega arith }

pub counted_more : (sides : List SideWeight) (first second : List Reach) (k total count : ℕ) (old new : List (WireId × ℕ)) → AreCounted sides first second k total old
    → count ≡ wire_meets sides first second k → count < 2 ^ 59 → new ≡ old ++ above_0 k count → AreCounted sides first second (k + 1) (total + count) new
counted_more sides first second k total count old new so_far e few en =
    record {
      sum = (λ i. so_far.sum i + e i) ∙ sym (sum_more (wire_meets sides first second) k);
      list = en ∙ (λ i. so_far.list i ++ above_0 k (e i))
          ∙ sym (filter_of_map_range_with_len_more (λ c. nat_lt 0 c.1) (λ wire. (record { 0 = wire }, wire_meets sides first second wire)) 0 k k (omega arith));
      small = omega (arith, so_far.small, few);
    }

pub sized : (sides : List SideWeight) (on : List Reach) (wire : ℕ) (r : Reach) → AreForSides sides on → wire < length on → r ≡ get_or on wire r → length r.placements ≡ length sides
sized sides on wire r h lt e = ap (λ q. length q.placements) (get_or_read on wire r lt e no_reach) ∙ h.each wire lt

pub wire_counted : (sides : List SideWeight) (first second : List Reach) (wire n : ℕ) (p q : Reach) → wire < length first → wire < length second → p ≡ get_or first wire p → q ≡ get_or second wire q
    → n ≡ meets sides p.placements q.placements → n ≡ wire_meets sides first second wire
wire_counted sides first second wire n p q lt_a lt_b ep eq e =
    e ∙ (λ i. meets sides (get_or_read first wire p lt_a ep no_reach i).placements (get_or_read second wire q lt_b eq no_reach i).placements)

pub counted_all : (sides : List SideWeight) (first second : List Reach) (pair : NetPair) (k n total : ℕ) (on : List (WireId × ℕ)) → n ≤ k → k ≤ n → AreCounted sides first second k total on
    → record { pair = pair; total = total; on = on } ≡ count_of n pair (wire_meets sides first second)
counted_all sides first second pair k n total on le ge h =
    let same : k ≡ n = omega (arith, le, ge) in
    (λ i. record { pair = pair; total = h.sum i; on = h.list i }) ∙ ap (λ m. count_of m pair (wire_meets sides first second)) same
