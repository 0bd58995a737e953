-- Pairs of strips that a cut ties together.
use Rattle.std.proofs.Common.{◌≡◌, ℕ, ◌+◌, ◌<◌, ◌≤◌, ◌⊎◌, true, false, ◌&&◌, ◌==◌, List, [], ◌∷◌, ◌++◌, length, refl, sym, ap, ◌∙◌, subst, arith, inl, inr, slice_get, get_or, Some, append_assoc}
use Rattle.std.specs.Prelude.{ℤ}
use Rattle.std.specs.List.{All}
use Rattle.std.proofs.lemmas.Bool.{cases_order, and_parts, and_from, eqb-true, eq-eqb}
use Rattle.std.proofs.lemmas.Int.{ints}
use Rattle.std.proofs.lemmas.List.Elements.{All-nil, All-push, All-append, All-weaker}
use Rattle.std.proofs.lemmas.List.Folds.{Any-from_list_any, list_any-from_Any}
use Rattle.std.proofs.lemmas.Option.{slice_get_within, slice_get_past, slice_get_read, slice_get-get_or, get_or_from_slice_get}
use Rattle.link_classes.proofs.UniqueNumbers.{some_one}
use Rattle.mask_region.specs.declared.strips.Strip.{Strip}
use Rattle.mask_region.specs.Strips.{is_in_strip, is_in, IsStrip, Banded}
use Rattle.net_trace.specs.Touching.{Nets, Cut, is_in_wire, is_listed}
use Rattle.net_trace.specs.Nets.{node_at}
use Rattle.net_trace.specs.Wirings.{vertices_of, IsVertexAt, AreOrdered, AreShared, IsSharedAlong, is_along_wire, IsTie, AreOneUnder, AreTiedBy, IsTieOf, AreTied}
use Rattle.net_trace.proofs.Lists.{none_more, all_left, all_right, all_last, not_both_ways}
use Rattle.net_trace.proofs.VertexLists.{strip_in}
use Rattle.net_trace.proofs.VertexFacts.{in_region, strip_with, node_vertex, node_of, one_vertex}
use Rattle.net_trace.proofs.Rectangles.{rectangle_linked}
use Rattle.net_trace.proofs.Values.{linked_value, along_nodes}

-- The first strips of the common cells have tied the strips of the two wires at their corners.
pub record IsTying (wires : List (List Strip)) (region : List Strip) (first second : ℕ) (common : List Strip) (n : ℕ) (old new : List (ℕ × ℕ)) : Type 0 where
  pub more : List (ℕ × ℕ)
  pub added : new ≡ old ++ more
  pub ties : All (IsTie wires region first second) more
  pub whole : (value : ℕ → ℕ) → AreShared more value → (k : ℕ) (s : Strip) (i j : ℕ) → k < n → slice_get common k ≡ Some s
      → IsVertexAt (vertices_of 0 wires) (node_at first s.x0 s.y0) i → IsVertexAt (vertices_of 0 wires) (node_at second s.x0 s.y0) j → value i ≡ value j

-- The pairs of wires before these two places of the cut's list are tied.
pub record IsTyingAll (wires : List (List Strip)) (cut : Cut) (m n : ℕ) (old new : List (ℕ × ℕ)) : Type 0 where
  pub more : List (ℕ × ℕ)
  pub added : new ≡ old ++ more
  pub ties : All (IsTieOf wires cut) more
  pub whole : (value : ℕ → ℕ) → IsSharedAlong (is_along_wire wires) (vertices_of 0 wires) value → AreShared more value → (p q from to : ℕ) → (p < m) ⊎ ((p ≡ m) × (q < n))
      → slice_get cut.wires p ≡ Some from → slice_get cut.wires q ≡ Some to → from < to → AreOneUnder wires cut.region value from to

module _ (wires : List (List Strip)) (region : List Strip) (first second : ℕ) (common : List Strip) where
  pub tying_none : (old : List (ℕ × ℕ)) → IsTying wires region first second common 0 old old
  tying_none old = record {
    more = [];
    added = none_more old;
    ties = All-nil (IsTie wires region first second);
    whole = λ value shared k s i j lt. absurd (omega (arith, lt));
  }

  -- a pair is added at the corner of the next strip
  pub tying_more : (n : ℕ) (s : Strip) (e : ℕ × ℕ) (old now new : List (ℕ × ℕ)) → AreOrdered (vertices_of 0 wires) → IsTying wires region first second common n old now → slice_get common n ≡ Some s
      → is_in region s.x0 s.y0 ≡ true → IsVertexAt (vertices_of 0 wires) (node_at first s.x0 s.y0) e.0 → IsVertexAt (vertices_of 0 wires) (node_at second s.x0 s.y0) e.1 → new ≡ now ++ e ∷ []
      → IsTying wires region first second common (n + 1) old new
  tying_more n s e old now new ordered h at through lower upper is = record {
    more = h.more ++ e ∷ [];
    added = is ∙ ap (λ l. l ++ e ∷ []) h.added ∙ append_assoc old h.more (e ∷ []);
    ties = All-push (IsTie wires region first second) h.more e h.ties (record { x = s.x0; y = s.y0; lower = lower; upper = upper; through = through });
    whole = λ value shared k t i j lt at_k at_i at_j. elim (cases_order k n) [
      | inl same ↦ last value shared t i j (ap (λ m. slice_get common m) (sym same) ∙ at_k) at_i at_j
      | inr (inl less) ↦ h.whole value (all_left (λ p. value p.0 ≡ value p.1) h.more (e ∷ []) shared) k t i j less at_k at_i at_j
      | inr (inr more) ↦ absurd (omega (arith, lt, more))
    ];
  } where
    last : (value : ℕ → ℕ) → AreShared (h.more ++ e ∷ []) value → (t : Strip) (i j : ℕ) → slice_get common n ≡ Some t
        → IsVertexAt (vertices_of 0 wires) (node_at first t.x0 t.y0) i → IsVertexAt (vertices_of 0 wires) (node_at second t.x0 t.y0) j → value i ≡ value j
    last value shared t i j at_t at_i at_j =
        let same : t ≡ s = some_one t s (sym at_t ∙ at) in
        let one : i ≡ e.0 = one_vertex (vertices_of 0 wires) (node_at first s.x0 s.y0) i e.0 ordered (subst (λ (r : Strip). IsVertexAt (vertices_of 0 wires) (node_at first r.x0 r.y0) i) same at_i) lower in
        let two : j ≡ e.1 = one_vertex (vertices_of 0 wires) (node_at second s.x0 s.y0) j e.1 ordered (subst (λ (r : Strip). IsVertexAt (vertices_of 0 wires) (node_at second r.x0 r.y0) j) same at_j) upper in
        ap value one ∙ all_last (λ p. value p.0 ≡ value p.1) h.more e shared ∙ ap value (sym two)

  -- one of the wires has no node at the corner of the next strip
  pub tying_less : (n : ℕ) (s : Strip) (old now new : List (ℕ × ℕ)) → IsTying wires region first second common n old now → slice_get common n ≡ Some s
      → (is_in_wire (slice_get wires first) s.x0 s.y0 && is_in_wire (slice_get wires second) s.x0 s.y0) ≡ false → new ≡ now → IsTying wires region first second common (n + 1) old new
  tying_less n s old now new h at none is = record {
    more = h.more;
    added = is ∙ h.added;
    ties = h.ties;
    whole = λ value shared k t i j lt at_k at_i at_j. elim (cases_order k n) [
      | inl same ↦ absent t i j (ap (λ m. slice_get common m) (sym same) ∙ at_k) at_i at_j
      | inr (inl less) ↦ h.whole value shared k t i j less at_k at_i at_j
      | inr (inr more) ↦ absurd (omega (arith, lt, more))
    ];
  } where
    absent : {P : Type 0} (t : Strip) (i j : ℕ) → slice_get common n ≡ Some t
        → IsVertexAt (vertices_of 0 wires) (node_at first t.x0 t.y0) i → IsVertexAt (vertices_of 0 wires) (node_at second t.x0 t.y0) j → P
    absent t i j at_t at_i at_j =
        let same : t ≡ s = some_one t s (sym at_t ∙ at) in
        let one = node_of (record { wires = wires; cuts = []; joins = [] }) (node_at first s.x0 s.y0) i (subst (λ (r : Strip). IsVertexAt (vertices_of 0 wires) (node_at first r.x0 r.y0) i) same at_i) in
        let two = node_of (record { wires = wires; cuts = []; joins = [] }) (node_at second s.x0 s.y0) j (subst (λ (r : Strip). IsVertexAt (vertices_of 0 wires) (node_at second r.x0 r.y0) j) same at_j) in
        not_both_ways (is_in_wire (slice_get wires first) s.x0 s.y0 && is_in_wire (slice_get wires second) s.x0 s.y0)
        (and_from (is_in_wire (slice_get wires first) s.x0 s.y0) (is_in_wire (slice_get wires second) s.x0 s.y0) one two) none

  -- the same, where the corner is given as a cell
  pub tying_more_at : (n : ℕ) (s : Strip) (x y : ℤ) (e : ℕ × ℕ) (old now new : List (ℕ × ℕ)) → AreOrdered (vertices_of 0 wires) → x ≡ s.x0 → y ≡ s.y0 → IsTying wires region first second common n old now → slice_get common n ≡ Some s
      → is_in region s.x0 s.y0 ≡ true → IsVertexAt (vertices_of 0 wires) (node_at first x y) e.0 → IsVertexAt (vertices_of 0 wires) (node_at second x y) e.1 → new ≡ now ++ e ∷ []
      → IsTying wires region first second common (n + 1) old new
  tying_more_at n s x y e old now new ordered is_x is_y h at through lower upper is =
      tying_more n s e old now new ordered h at through
      (subst (λ (a : ℤ). IsVertexAt (vertices_of 0 wires) (node_at first a s.y0) e.0) is_x (subst (λ (b : ℤ). IsVertexAt (vertices_of 0 wires) (node_at first x b) e.0) is_y lower))
      (subst (λ (a : ℤ). IsVertexAt (vertices_of 0 wires) (node_at second a s.y0) e.1) is_x (subst (λ (b : ℤ). IsVertexAt (vertices_of 0 wires) (node_at second x b) e.1) is_y upper)) is

  pub tying_less_at : (n : ℕ) (s : Strip) (x y : ℤ) (old now new : List (ℕ × ℕ)) → x ≡ s.x0 → y ≡ s.y0 → IsTying wires region first second common n old now → slice_get common n ≡ Some s
      → (is_in_wire (slice_get wires first) x y && is_in_wire (slice_get wires second) x y) ≡ false → new ≡ now → IsTying wires region first second common (n + 1) old new
  tying_less_at n s x y old now new is_x is_y h at none is =
      tying_less n s old now new h at
      (subst (λ (a : ℤ). (is_in_wire (slice_get wires first) a s.y0 && is_in_wire (slice_get wires second) a s.y0) ≡ false) is_x
      (subst (λ (b : ℤ). (is_in_wire (slice_get wires first) x b && is_in_wire (slice_get wires second) x b) ≡ false) is_y none)) is

first_cell : (s : Strip) (x y : ℤ) → is_in_strip s x y ≡ true → is_in_strip s s.x0 s.y0 ≡ true
first_cell s x y has = grind (arith, ints, has)

-- One of the wires is not there.
pub untied : (wires : List (List Strip)) (region : List Strip) (first second : ℕ) (old : List (ℕ × ℕ))
    → ((x y : ℤ) (i j : ℕ) → IsVertexAt (vertices_of 0 wires) (node_at first x y) i → IsVertexAt (vertices_of 0 wires) (node_at second x y) j → ⊥) → AreTiedBy wires region first second old old
untied wires region first second old none = record {
  more = [];
  added = none_more old;
  ties = All-nil (IsTie wires region first second);
  whole = λ value kept shared. record { one = λ x y i j has at_i at_j. absurd (none x y i j at_i at_j) };
}

pub no_wire : (wires : List (List Strip)) (w : ℕ) (x y : ℤ) (i : ℕ) → length wires ≤ w → IsVertexAt (vertices_of 0 wires) (node_at w x y) i → ⊥
no_wire wires w x y i past h =
    let node = node_of (record { wires = wires; cuts = []; joins = [] }) (node_at w x y) i h in
    not_both_ways (is_in_wire (slice_get wires w) x y) node (ap (λ o. is_in_wire o x y) (slice_get_past wires w past))

-- the common cells are those of the region that both wires have
pub record IsCommon (wires : List (List Strip)) (region : List Strip) (first second : ℕ) (common : List Strip) : Type 0 where
  pub cells : (x y : ℤ) → is_in common x y ≡ ((is_in region x y && is_in_wire (slice_get wires first) x y) && is_in_wire (slice_get wires second) x y)

module _ (wires : List (List Strip)) (ordered : AreOrdered (vertices_of 0 wires)) (region : List Strip) (first second : ℕ) (common : List Strip) (h : IsCommon wires region first second common) where
  abbrev plain : Nets
  plain = record { wires = wires; cuts = []; joins = [] }

  part : (x y : ℤ) → is_in common x y ≡ true → (is_in region x y ≡ true) × (is_in_wire (slice_get wires first) x y ≡ true) × (is_in_wire (slice_get wires second) x y ≡ true)
  part x y has =
      let (two, last) = and_parts (is_in region x y && is_in_wire (slice_get wires first) x y) (is_in_wire (slice_get wires second) x y) (sym (h.cells x y) ∙ has) in
      let (one, mid) = and_parts (is_in region x y) (is_in_wire (slice_get wires first) x y) two in
      (one, mid, last)

  pub corner_through : (k : ℕ) (s : Strip) → slice_get common k ≡ Some s → is_in_strip s s.x0 s.y0 ≡ true → is_in region s.x0 s.y0 ≡ true
  corner_through k s at has = (part s.x0 s.y0 (in_region common k s s.x0 s.y0 at has)).0

  -- at each of the common cells the value of a wire's strip is that at the corner of a common strip
  side : (w : ℕ) (value : ℕ → ℕ) → IsSharedAlong (is_along_wire wires) (vertices_of 0 wires) value → (k : ℕ) (s : Strip) (x y : ℤ) (i : ℕ) → ((a b : ℤ) → is_in common a b ≡ true → is_in_wire (slice_get wires w) a b ≡ true)
      → slice_get common k ≡ Some s → is_in_strip s x y ≡ true → IsVertexAt (vertices_of 0 wires) (node_at w x y) i
      → (j : ℕ) × IsVertexAt (vertices_of 0 wires) (node_at w s.x0 s.y0) j × (value j ≡ value i)
  side w value kept k s x y i cells at has at_i =
      let corner_in = cells s.x0 s.y0 (in_region common k s s.x0 s.y0 at (first_cell s x y has)) in
      let (j, at_j) = node_vertex plain (node_at w s.x0 s.y0) corner_in in
      let linked = rectangle_linked wires w s x y (λ a b in_s. cells a b (in_region common k s a b at in_s)) has in
      (j, at_j, linked_value plain ordered (is_along_wire wires) value (along_nodes plain ordered) kept (node_at w s.x0 s.y0) (node_at w x y) j i linked at_j at_i)

  pub tied_all : (n : ℕ) (old new : List (ℕ × ℕ)) → length common ≤ n → IsTying wires region first second common n old new → AreTiedBy wires region first second old new
  tied_all n old new le t = record {
    more = t.more;
    added = t.added;
    ties = t.ties;
    whole = λ value kept shared. record {
      one = λ x y i j has at_i at_j.
          let one = node_of plain (node_at first x y) i at_i in
          let two = node_of plain (node_at second x y) j at_j in
          let here : is_in common x y ≡ true = h.cells x y ∙ and_from (is_in region x y && is_in_wire (slice_get wires first) x y) (is_in_wire (slice_get wires second) x y) (and_from (is_in region x y) (is_in_wire (slice_get wires first) x y) has one) two in
          let (k, s, at, in_s) = strip_with common x y here in
          let (p, at_p, left) = side first value kept k s x y i (λ a b c. (part a b c).1) at in_s at_i in
          let (q, at_q, right) = side second value kept k s x y j (λ a b c. (part a b c).2) at in_s at_j in
          sym left ∙ t.whole value shared k s p q (omega (arith, le, slice_get_within common k s at)) at at_p at_q ∙ right;
    };
  }

-- ---- all pairs of wires of a cut

module _ (wires : List (List Strip)) (cut : Cut) where
  pub all_start : (old : List (ℕ × ℕ)) → IsTyingAll wires cut 0 0 old old
  all_start old = record {
    more = [];
    added = none_more old;
    ties = All-nil (IsTieOf wires cut);
    whole = λ value kept shared p q from to before. elim before [ inl lt ↦ absurd (omega (arith, lt)) | inr lt ↦ absurd (omega (arith, lt.1)) ];
  }

  pub listed_at : (k w : ℕ) → slice_get cut.wires k ≡ Some w → is_listed cut.wires w ≡ true
  listed_at k w at = list_any-from_Any (λ v. v == w) cut.wires (k, w, slice_get_within cut.wires k w at, get_or_from_slice_get cut.wires k w w at, eq-eqb w w refl)

  pub all_tied : (m n u v : ℕ) (old now new : List (ℕ × ℕ)) → slice_get cut.wires m ≡ Some u → slice_get cut.wires n ≡ Some v → IsTyingAll wires cut m n old now → AreTiedBy wires cut.region u v now new → IsTyingAll wires cut m (n + 1) old new
  all_tied m n u v old now new at_m at_n h t = record {
    more = h.more ++ t.more;
    added = t.added ∙ ap (λ l. l ++ t.more) h.added ∙ append_assoc old h.more t.more;
    ties = All-append (IsTieOf wires cut) h.more t.more h.ties
        (All-weaker (IsTie wires cut.region u v) (IsTieOf wires cut) (λ e tie. record { from = u; to = v; from_listed = listed_at m u at_m; to_listed = listed_at n v at_n; tie = tie }) t.more t.ties);
    whole = λ value kept shared p q from to before at_p at_q less.
        elim before [
          | inl low ↦ h.whole value kept (all_left (λ e. value e.0 ≡ value e.1) h.more t.more shared) p q from to (inl low) at_p at_q less
          | inr here ↦ elim (cases_order q n) [
            | inl same ↦ subst (λ (w : ℕ). AreOneUnder wires cut.region value w to) (some_one u from (sym at_m ∙ ap (λ k. slice_get cut.wires k) (sym here.0) ∙ at_p))
                (subst (λ (w : ℕ). AreOneUnder wires cut.region value u w) (some_one v to (sym at_n ∙ ap (λ k. slice_get cut.wires k) (sym same) ∙ at_q))
                (t.whole value kept (all_right (λ e. value e.0 ≡ value e.1) h.more t.more shared)))
            | inr (inl lt) ↦ h.whole value kept (all_left (λ e. value e.0 ≡ value e.1) h.more t.more shared) p q from to (inr (here.0, lt)) at_p at_q less
            | inr (inr gt) ↦ absurd (omega (arith, gt, here.1))
          ]
        ];
  }

  pub all_skipped : (m n u v : ℕ) (old now new : List (ℕ × ℕ)) → slice_get cut.wires m ≡ Some u → slice_get cut.wires n ≡ Some v → IsTyingAll wires cut m n old now → v ≤ u → new ≡ now → IsTyingAll wires cut m (n + 1) old new
  all_skipped m n u v old now new at_m at_n h ge is = record {
    more = h.more;
    added = is ∙ h.added;
    ties = h.ties;
    whole = λ value kept shared p q from to before at_p at_q less.
        elim before [
          | inl low ↦ h.whole value kept shared p q from to (inl low) at_p at_q less
          | inr here ↦ elim (cases_order q n) [
            | inl same ↦
                let one = some_one u from (sym at_m ∙ ap (λ k. slice_get cut.wires k) (sym here.0) ∙ at_p) in
                let two = some_one v to (sym at_n ∙ ap (λ k. slice_get cut.wires k) (sym same) ∙ at_q) in
                absurd (omega (arith, ge, less, one, two))
            | inr (inl lt) ↦ h.whole value kept shared p q from to (inr (here.0, lt)) at_p at_q less
            | inr (inr gt) ↦ absurd (omega (arith, gt, here.1))
          ]
        ];
  }

  pub all_row : (m n : ℕ) (old now : List (ℕ × ℕ)) → length cut.wires ≤ n → IsTyingAll wires cut m n old now → IsTyingAll wires cut (m + 1) 0 old now
  all_row m n old now le h = record {
    more = h.more;
    added = h.added;
    ties = h.ties;
    whole = λ value kept shared p q from to before at_p at_q less.
        elim before [
          | inl low ↦ elim (cases_order p m) [
            | inl same ↦ h.whole value kept shared p q from to (inr (same, omega (arith, le, slice_get_within cut.wires q to at_q))) at_p at_q less
            | inr (inl lt) ↦ h.whole value kept shared p q from to (inl lt) at_p at_q less
            | inr (inr gt) ↦ absurd (omega (arith, gt, low))
          ]
          | inr here ↦ absurd (omega (arith, here.1))
        ];
  }

  pub found_place : (w : ℕ) → is_listed cut.wires w ≡ true → (k : ℕ) × (k < length cut.wires) × (slice_get cut.wires k ≡ Some w)
  found_place w listed =
      let (k, v, lt, is, pass) = Any-from_list_any (λ v. v == w) cut.wires listed in
      (k, lt, slice_get_read cut.wires (length cut.wires) k v refl lt (sym is) ∙ ap (λ n. Some n) (eqb-true v w pass))

  pub all_done : (m n : ℕ) (old now : List (ℕ × ℕ)) → length cut.wires ≤ m → IsTyingAll wires cut m n old now → AreTied wires cut old now
  all_done m n old now le h = record {
    more = h.more;
    added = h.added;
    ties = h.ties;
    whole = λ ordered value kept shared from to in_from in_to.
        let (p, p_in, at_p) = found_place from in_from in
        let (q, q_in, at_q) = found_place to in_to in
        elim (cases_order from to) [
          | inl same ↦ record { one = λ x y i j has at_i at_j. ap value (one_vertex (vertices_of 0 wires) (node_at to x y) i j ordered (subst (λ (w : ℕ). IsVertexAt (vertices_of 0 wires) (node_at w x y) i) same at_i) at_j) }
          | inr (inl less) ↦ h.whole value kept shared p q from to (inl (omega (arith, le, p_in))) at_p at_q less
          | inr (inr more) ↦ record { one = λ x y i j has at_i at_j. sym ((h.whole value kept shared q p to from (inl (omega (arith, le, q_in))) at_q at_p more).one x y j i has at_j at_i) }
        ];
  }

-- the cells that the region and both wires have, as two meets give them
pub common_of : (wires : List (List Strip)) (region : List Strip) (first second : ℕ) (lower upper half common : List Strip) → slice_get wires first ≡ Some lower → slice_get wires second ≡ Some upper
    → ((x y : ℤ) → is_in half x y ≡ (is_in region x y && is_in lower x y)) → ((x y : ℤ) → is_in common x y ≡ (is_in half x y && is_in upper x y)) → IsCommon wires region first second common
common_of wires region first second lower upper half common at_first at_second one two = record {
  cells = λ x y.
      two x y ∙ ap (λ b. b && is_in upper x y) (one x y ∙ ap (λ o. is_in region x y && is_in_wire o x y) (sym at_first))
      ∙ ap (λ o. (is_in region x y && is_in_wire (slice_get wires first) x y) && is_in_wire o x y) (sym at_second);
}

-- a strip of a banded list has its least cell
pub least_cell : (common : List Strip) (k : ℕ) (s : Strip) → Banded common → slice_get common k ≡ Some s → is_in_strip s s.x0 s.y0 ≡ true
least_cell common k s banded at = corner_in s (strip_in common k s banded.each at)
  where
    corner_in : (t : Strip) → IsStrip t → is_in_strip t t.x0 t.y0 ≡ true
    corner_in t strip = let wide = strip.wide in let high = strip.high in grind (arith, ints)

-- the next strip, and that the region has its least cell
pub strip_step : (wires : List (List Strip)) (region : List Strip) (first second : ℕ) (common strips : List Strip) (n : ℕ) (d : Strip) → AreOrdered (vertices_of 0 wires) → strips ≡ common → IsCommon wires region first second common → Banded common
    → n < length strips → (slice_get strips n ≡ Some (get_or strips n d)) × (is_in region (get_or strips n d).x0 (get_or strips n d).y0 ≡ true)
strip_step wires region first second common strips n d ordered same h banded lt =
    let at = slice_get-get_or strips n d lt in
    let there : slice_get common n ≡ Some (get_or strips n d) = ap (λ l. slice_get l n) (sym same) ∙ at in
    (at, corner_through wires ordered region first second common h n (get_or strips n d) there (least_cell common n (get_or strips n d) banded there))

pub listed : (from to : List ℕ) (k d : ℕ) → from ≡ to → k < length from → slice_get to k ≡ Some (get_or from k d)
listed from to k d same lt = ap (λ l. slice_get l k) (sym same) ∙ slice_get-get_or from k d lt

pub tied_moved : (wires : List (List Strip)) (from to : List Strip) (u v : ℕ) (old now new : List (ℕ × ℕ)) → from ≡ to → new ≡ now → AreTiedBy wires from u v old now → AreTiedBy wires to u v old new
tied_moved wires from to u v old now new same is h = subst (λ (r : List Strip). AreTiedBy wires r u v old new) same (subst (λ (l : List (ℕ × ℕ)). AreTiedBy wires from u v old l) (sym is) h)
