-- What all nets reach.
use Rattle.std.proofs.Common.{◌≡◌, ℕ, ◌+◌, ◌-◌, ◌*◌, ◌<◌, ◌≤◌, ◌&&◌, nat_lt, cond, append_assoc, List, [], ◌∷◌, ◌++◌, length, take, drop, get_or, refl, sym, ap, ◌∙◌, subst, arith, inl, inr}
use Rattle.std.specs.Prelude.{slice_index_or}
use Rattle.std.specs.List.{range_with_len}
use Rattle.std.proofs.lemmas.List.{get_or-take, get_or-drop, get_or_append_left, get_or_push, length_push, get_or_read, length-take-le, length-drop, length-append, append-nil}
use Rattle.std.proofs.lemmas.Nat.{row_fits}
use Rattle.plane_geom.specs.Cells.{is_met}
use Rattle.plane_geom.proofs.Counting.{count_cells_agree}
use Rattle.mask_region.specs.declared.strips.Strip.{Strip}
use Rattle.mask_region.specs.Strips.{is_in}
use Rattle.defect_sweep.specs.declared.sides.SideWeight.{SideWeight}
use Rattle.defect_sweep.specs.Counting.{weighted, placements_on_both, region_at, count_on, count_of, counts_of, pair_of, listed, BridgeCount}
use Rattle.defect_sweep.specs.Sides.{no_side, side_at}
use Rattle.defect_sweep.specs.Reaching.{Reaches, placements_at, ArePlacements, side_meets, meets, reach_at, AreReachesOf, no_reaches, net_at, AreSpread, AreForAll, pair_meets, pair_count, meets_on, row_of}
use Rattle.defect_sweep.proofs.Listing.{all_range, sum_agree, sum_places, listed_agree, row, row_more, row_up, rows, rows_more, rows_up}
use Rattle.defect_sweep.proofs.Meeting.{sum_zero}
use Rattle.net_trace.proofs.Lists.{last_or_before}

-- ---- net by net

-- what the first k nets reach
pub record AreSpreadTo (sides : List SideWeight) (wires : ℕ) (regions : List (List Strip)) (k : ℕ) (nets : List Reaches) : Type 0 where
  pub each : length nets ≡ k
  pub at : (net : ℕ) → net < k → AreReachesOf sides wires (region_at wires regions net) (net_at nets net).on

pub spread_none : (sides : List SideWeight) (wires : ℕ) (regions : List (List Strip)) (nets : List Reaches) → nets ≡ [] → AreSpreadTo sides wires regions 0 nets
spread_none sides wires regions nets e = record { each = ap (λ xs. length xs) e; at = λ net lt. absurd (omega (arith, lt)) }

pub spread_more : (sides : List SideWeight) (wires : ℕ) (regions : List (List Strip)) (k : ℕ) (old new : List Reaches) (r : Reaches) → AreSpreadTo sides wires regions k old
    → AreReachesOf sides wires (region_at wires regions k) r.on → new ≡ old ++ r ∷ [] → AreSpreadTo sides wires regions (k + 1) new
spread_more sides wires regions k old new r so_far here e =
    subst (λ xs. AreSpreadTo sides wires regions (k + 1) xs) (sym e)
    (record {
      each = length_push old r ∙ ap (λ n. n + 1) so_far.each;
      at = λ net lt. elim (last_or_before net k lt) [
        | inl less ↦ subst (λ q. AreReachesOf sides wires (region_at wires regions net) q.on)
            (sym (get_or_append_left old (r ∷ []) no_reaches net (omega (arith, less, so_far.each)))) (so_far.at net less)
        | inr same ↦ subst (λ q. AreReachesOf sides wires (region_at wires regions net) q.on) (sym (get_or_push old r no_reaches net (so_far.each ∙ sym same)))
            (subst (λ n. AreReachesOf sides wires (region_at wires regions n) r.on) (sym same) here)
      ];
    })

-- the regions of one net
pub own_regions : (sides : List SideWeight) (wires : ℕ) (regions own : List (List Strip)) (net : ℕ) (r : Reaches) → own ≡ take wires (drop (net * wires) regions) → length own ≡ wires
    → AreReachesOf sides (length own) (λ wire. slice_index_or own wire []) r.on → AreReachesOf sides wires (region_at wires regions net) r.on
own_regions sides wires regions own net r e each h =
    record {
      each = h.each ∙ each;
      at = λ wire lt.
          let place : slice_index_or own wire [] ≡ region_at wires regions net wire =
          ap (λ xs. get_or xs wire []) e ∙ get_or-take wires (drop (net * wires) regions) wire [] lt ∙ get_or-drop (net * wires) regions wire [] in
          subst (λ region. ArePlacements sides region (reach_at r.on wire).placements) place (h.at wire (omega (arith, lt, each)));
    }

pub spread_all : (sides : List SideWeight) (wires : ℕ) (regions : List (List Strip)) (k : ℕ) (nets : List Reaches) → AreSpreadTo sides wires regions k nets → AreSpread sides wires regions nets
spread_all sides wires regions k nets h = record { at = λ net lt. h.at net (omega (arith, lt, h.each)) }

pub for_all : (sides : List SideWeight) (wires : ℕ) (regions : List (List Strip)) (nets : List Reaches) → AreSpread sides wires regions nets → AreForAll sides wires nets
for_all sides wires regions nets h =
    record {
      each = λ net lt. (h.at net lt).each;
      sided = λ net lt. record { each = λ wire less. ((h.at net lt).at wire (omega (arith, less, (h.at net lt).each))).each };
    }

-- ---- what is counted is what the definition says

pub meets_weighted : (sides : List SideWeight) (first second : List Strip) (a b : List (List Strip)) → ArePlacements sides first a → ArePlacements sides second b
    → meets sides a b ≡ weighted sides (is_in first) (is_in second)
meets_weighted sides first second a b pa pb =
    sum_agree (λ k. side_meets sides a b k) (λ k. (side_at sides k).weight * placements_on_both (side_at sides k).cells (is_in first) (is_in second)) (range_with_len 0 (length sides))
    (all_range (λ k. side_meets sides a b k ≡ (side_at sides k).weight * placements_on_both (side_at sides k).cells (is_in first) (is_in second)) 0 (length sides)
    (λ k low high. ap (λ n. (side_at sides k).weight * n)
    (count_cells_agree (λ x y. is_in (placements_at a k) x y && is_in (placements_at b k) x y)
    (λ x y. is_met (side_at sides k).cells (is_in first) x y && is_met (side_at sides k).cells (is_in second) x y)
    (λ x y. (λ i. pa.cells k (omega (arith, high)) x y i && pb.cells k (omega (arith, high)) x y i)))))
    ∙ sum_places (λ s. s.weight * placements_on_both s.cells (is_in first) (is_in second)) sides no_side

pub all_counts : (sides : List SideWeight) (count wires : ℕ) (regions : List (List Strip)) (nets : List Reaches) → AreSpread sides wires regions nets → length nets ≡ count
    → rows (λ pair. pair_count sides wires nets pair) count count ≡ counts_of sides count wires regions
all_counts sides count wires regions nets h each =
    listed_agree count wires (λ pair. pair_meets sides nets pair) (λ pair. count_on sides wires regions pair)
    (λ a b wire before within lt.
    meets_weighted sides (region_at wires regions a wire) (region_at wires regions b wire) (reach_at (net_at nets a).on wire).placements (reach_at (net_at nets b).on wire).placements
    ((h.at a (omega (arith, before, within, each))).at wire lt) ((h.at b (omega (arith, within, each))).at wire lt))

-- the nets that the code reads
pub count_is : (sides : List SideWeight) (wires : ℕ) (nets : List Reaches) (a b : ℕ) (p q : Reaches) (count : BridgeCount) → AreForAll sides wires nets → a < length nets → b < length nets
    → p ≡ get_or nets a p → q ≡ get_or nets b q → count ≡ count_of (length p.on) (pair_of a b) (meets_on sides p q) → count ≡ pair_count sides wires nets (pair_of a b)
count_is sides wires nets a b p q count h lt_a lt_b ep eq e =
    let pa : p ≡ net_at nets a = get_or_read nets a p lt_a ep no_reaches in
    let qb : q ≡ net_at nets b = get_or_read nets b q lt_b eq no_reaches in
    e ∙ (λ i. count_of (length (pa i).on) (pair_of a b) (meets_on sides (pa i) (qb i))) ∙ ap (λ n. count_of n (pair_of a b) (meets_on sides (net_at nets a) (net_at nets b))) (h.each a lt_a)

pub own_length : (regions : List (List Strip)) (nets wires net : ℕ) → length regions ≡ nets * wires → net < nets → length (take wires (drop (net * wires) regions)) ≡ wires
own_length regions nets wires net e lt = length-take-le wires (drop (net * wires) regions) (omega (arith, length-drop (net * wires) regions, e, row_fits net wires nets wires lt (omega arith)))

-- ---- the steps of the sweep

module _ (sides : List SideWeight) (wires : ℕ) (nets : List Reaches) where
  step_at : (a b : ℕ) → a + 1 ≤ b → row (λ pair. pair_count sides wires nets pair) a ((b + 1) - (a + 1)) ≡ row (λ pair. pair_count sides wires nets pair) a (b - (a + 1)) ++ listed (pair_count sides wires nets (pair_of a b) ∷ [])
  step_at a b le =
      let next : (b + 1) - (a + 1) ≡ (b - (a + 1)) + 1 = omega (arith, le) in
      ap (λ n. row (λ pair. pair_count sides wires nets pair) a n) next ∙ row_more (λ pair. pair_count sides wires nets pair) a (b - (a + 1)) b (omega (arith, le))

  pub push_step : (old found new : List BridgeCount) (a b : ℕ) (count : BridgeCount) → a + 1 ≤ b → found ≡ old ++ row (λ pair. pair_count sides wires nets pair) a (b - (a + 1)) → count ≡ pair_count sides wires nets (pair_of a b)
      → new ≡ found ++ listed (count ∷ []) → new ≡ old ++ row (λ pair. pair_count sides wires nets pair) a ((b + 1) - (a + 1))
  push_step old found new a b count le so_far is e =
      e ∙ (λ i. so_far i ++ listed (is i ∷ []))
      ∙ append_assoc old (row (λ pair. pair_count sides wires nets pair) a (b - (a + 1))) (listed (pair_count sides wires nets (pair_of a b) ∷ []))
      ∙ ap (λ xs. old ++ xs) (sym (step_at a b le))

  none_listed : (count : BridgeCount) → count.total ≡ 0 → listed (count ∷ []) ≡ []
  none_listed count e = ap (λ n. cond (nat_lt 0 n) (count ∷ []) []) e

  pub skip_step : (old found : List BridgeCount) (a b : ℕ) (p q : Reaches) → a + 1 ≤ b → a < length nets → b < length nets → p ≡ get_or nets a p → q ≡ get_or nets b q → ((s : List SideWeight) (wire : ℕ) → meets_on s p q wire ≡ 0)
      → found ≡ old ++ row (λ pair. pair_count sides wires nets pair) a (b - (a + 1)) → found ≡ old ++ row (λ pair. pair_count sides wires nets pair) a ((b + 1) - (a + 1))
  skip_step old found a b p q le lt_a lt_b ep eq none so_far =
      let pa : p ≡ net_at nets a = get_or_read nets a p lt_a ep no_reaches in
      let qb : q ≡ net_at nets b = get_or_read nets b q lt_b eq no_reaches in
      let zero : (wire : ℕ) → pair_meets sides nets (pair_of a b) wire ≡ 0 = λ wire. (λ i. meets_on sides (sym pa i) (sym qb i) wire) ∙ none sides wire in
      let total : (pair_count sides wires nets (pair_of a b)).total ≡ 0 = sum_zero (pair_meets sides nets (pair_of a b)) (range_with_len 0 wires) zero in
      so_far ∙ ap (λ xs. old ++ xs)
      (sym (append-nil (row (λ pair. pair_count sides wires nets pair) a (b - (a + 1))))
      ∙ ap (λ xs. row (λ pair. pair_count sides wires nets pair) a (b - (a + 1)) ++ xs) (sym (none_listed (pair_count sides wires nets (pair_of a b)) total))
      ∙ sym (step_at a b le))

  pub too_many : (old found : List BridgeCount) (a b : ℕ) (count : BridgeCount) → a + 1 ≤ b → b < length nets → found ≡ old ++ row (λ pair. pair_count sides wires nets pair) a (b - (a + 1))
      → count ≡ pair_count sides wires nets (pair_of a b) → 65536 < length (found ++ listed (count ∷ [])) → 65536 < length (old ++ row_of sides wires nets a)
  too_many old found a b count le lt so_far is many =
      let whole = push_step old found (found ++ listed (count ∷ [])) a b count le so_far is refl in
      omega (
        arith,
        many,
        ap length whole,
        length-append old (row (λ pair. pair_count sides wires nets pair) a ((b + 1) - (a + 1))),
        length-append old (row_of sides wires nets a),
        row_up (λ pair. pair_count sides wires nets pair) a ((b + 1) - (a + 1)) (length nets - (a + 1)) (omega (arith, lt)),
      )

  pub row_whole : (old found : List BridgeCount) (a b : ℕ) → a < length nets → length nets ≤ b → b ≤ length nets → found ≡ old ++ row (λ pair. pair_count sides wires nets pair) a (b - (a + 1))
      → found ≡ old ++ row_of sides wires nets a
  row_whole old found a b lt le ge so_far =
      let same : b ≡ length nets = omega (arith, le, ge) in
      so_far ∙ ap (λ n. old ++ row (λ pair. pair_count sides wires nets pair) a (n - (a + 1))) same

  pub rows_step : (found new : List BridgeCount) (a : ℕ) → found ≡ rows (λ pair. pair_count sides wires nets pair) (length nets) a → new ≡ found ++ row_of sides wires nets a
      → new ≡ rows (λ pair. pair_count sides wires nets pair) (length nets) (a + 1)
  rows_step found new a so_far e = e ∙ ap (λ xs. xs ++ row_of sides wires nets a) so_far ∙ sym (rows_more (λ pair. pair_count sides wires nets pair) (length nets) a)

  pub rows_too_many : (found : List BridgeCount) (a : ℕ) → a < length nets → found ≡ rows (λ pair. pair_count sides wires nets pair) (length nets) a → 65536 < length (found ++ row_of sides wires nets a)
      → 65536 < length (rows (λ pair. pair_count sides wires nets pair) (length nets) (length nets))
  rows_too_many found a lt so_far many =
      omega (arith, many, ap length (rows_step found (found ++ row_of sides wires nets a) a so_far refl), rows_up (λ pair. pair_count sides wires nets pair) (length nets) (a + 1) (length nets) (omega (arith, lt)))

pub for_slice : (sides : List SideWeight) (wires : ℕ) (regions : List (List Strip)) (nets slice : List Reaches) → AreSpread sides wires regions nets → slice ≡ nets → AreForAll sides wires slice
for_slice sides wires regions nets slice h e = subst (λ ns. AreForAll sides wires ns) (sym e) (for_all sides wires regions nets h)

-- ---- the whole list

pub row_slice : (sides : List SideWeight) (wires : ℕ) (nets slice : List Reaches) (a : ℕ) (found new : List BridgeCount) → slice ≡ nets → new ≡ found ++ row_of sides wires slice a → new ≡ found ++ row_of sides wires nets a
row_slice sides wires nets slice a found new e is = is ∙ ap (λ ns. found ++ row_of sides wires ns a) e

pub counts_end : (sides : List SideWeight) (wires : ℕ) (regions : List (List Strip)) (nets : List Reaches) (found : List BridgeCount) (count a : ℕ) → AreSpread sides wires regions nets → length nets ≡ count
    → count ≤ a → a ≤ count → found ≡ rows (λ pair. pair_count sides wires nets pair) (length nets) a → found ≡ counts_of sides count wires regions
counts_end sides wires regions nets found count a h each le ge so_far =
    let same : a ≡ count = omega (arith, le, ge) in
    so_far ∙ (λ i. rows (λ pair. pair_count sides wires nets pair) (each i) (same i)) ∙ all_counts sides count wires regions nets h each

pub counts_many : (sides : List SideWeight) (wires : ℕ) (regions : List (List Strip)) (nets slice : List Reaches) (found : List BridgeCount) (count a : ℕ) → AreSpread sides wires regions nets → length nets ≡ count
    → a < count → slice ≡ nets → found ≡ rows (λ pair. pair_count sides wires nets pair) (length nets) a → 65536 < length (found ++ row_of sides wires slice a)
    → 65536 < length (counts_of sides count wires regions)
counts_many sides wires regions nets slice found count a h each lt e so_far many =
    let whole = (λ i. rows (λ pair. pair_count sides wires nets pair) (each i) (each i)) ∙ all_counts sides count wires regions nets h each in
    omega (arith, rows_too_many sides wires nets found a (omega (arith, lt, each)) so_far (subst (λ ns. 65536 < length (found ++ row_of sides wires ns a)) e many), ap length whole)
