-- The regions of nets are filled strip by strip.
use Rattle.std.proofs.Common.{◌≡◌, ◌≢◌, ℕ, zero, suc, ◌+◌, ◌*◌, ◌/◌, ◌<◌, ◌⊎◌, List, [], ◌∷◌, ◌++◌, length, refl, sym, ap, ◌∙◌, subst, arith, inl, inr, slice_get, slice_index, slice_set, get_or, Some}
use Rattle.std.specs.List.{All, AllByRecursion}
use Rattle.std.proofs.lemmas.Bool.{cases_order}
use Rattle.std.proofs.lemmas.List.{length-set}
use Rattle.std.proofs.lemmas.Nat.{div-mul-add}
use Rattle.std.proofs.lemmas.List.Elements.{recursion_from_All}
use Rattle.std.proofs.lemmas.Option.{slice_get_within, slice_get-get_or, get_or_from_slice_get}
use Rattle.link_classes.proofs.UniqueNumbers.{some_one, no_some}
use Rattle.mask_region.specs.declared.strips.Strip.{Strip}
use Rattle.mask_region.specs.Strips.{Follows, Banded, IsStripWithin, AreStripsWithin, AreRegionsWithin}
use Rattle.mask_region.proofs.Banding.{banded-push}
use Rattle.net_trace.specs.declared.wiring.Vertex.{Vertex}
use Rattle.net_trace.specs.Wirings.{vertices_of, IsBehind, AreOrdered, AreParts, AreEmpty}
use Rattle.net_trace.proofs.VertexLists.{get_left, get_right, get_append, of_wire}

-- ---- one element of a list is set

pub get_set : {A : Type 0} (xs : List A) (e k : ℕ) (y r : A) → slice_get (slice_set xs e y) k ≡ Some r → ((k ≡ e) × (r ≡ y)) ⊎ ((k ≢ e) × (slice_get xs k ≡ Some r))
get_set [] e k y r h = no_some r h
get_set (x ∷ xs) zero zero y r h = inl (refl, sym (some_one y r h))
get_set (x ∷ xs) zero (suc k) y r h = inr ((λ e. omega (arith, e)), h)
get_set (x ∷ xs) (suc e) zero y r h = inr ((λ f. omega (arith, f)), h)
get_set (x ∷ xs) (suc e) (suc k) y r h = elim (get_set xs e k y r h) [
  | inl same ↦ inl (ap suc same.0, same.1)
  | inr other ↦ inr ((λ f. other.0 (omega (arith, f))), other.1)
]

-- the place of a net and a wire is that of no other ones
one_place : (count l m u v : ℕ) → u < count → v < count → l * count + u ≡ m * count + v → (l ≡ m) × (u ≡ v)
one_place count l m u v u_in v_in same =
    let nets : l ≡ m = sym (div-mul-add l count u u_in) ∙ ap (λ n. n / count) same ∙ div-mul-add m count v v_in in
    (nets, cancel (l * count) u v (same ∙ ap (λ n. n * count + v) (sym nets)))
  where
    cancel : (p q r : ℕ) → p + q ≡ p + r → q ≡ r
    cancel p q r h = omega (arith, h)

pub parts_none : (vertices : List Vertex) (label : List ℕ) (count wires size : ℕ) (regions : List (List Strip)) → size ≡ count * wires → AreEmpty size regions → AreParts vertices label count wires 0 regions
parts_none vertices label count wires size regions is h = record {
  each = h.each ∙ is;
  banded = record { each = λ w r at. subst Banded (sym (h.none w r at)) (record { each = tt }) };
  of = λ e r k s at at_k. no_some s (ap (λ (l : List Strip). slice_get l k) (sym (h.none e r at)) ∙ at_k);
  inside = λ net wire r k s net_in wire_in at at_k. no_some s (ap (λ (l : List Strip). slice_get l k) (sym (h.none (net * wires + wire) r at)) ∙ at_k);
  whole = λ i v r lt. absurd (omega (arith, lt));
}

module _ (vertices : List Vertex) (label : List ℕ) (count wires n : ℕ) (regions : List (List Strip)) (v : Vertex) (ordered : AreOrdered vertices) (at_v : slice_get vertices n ≡ Some v)
    (label_in : slice_index label n < count) (wire_in : v.wire < wires) (h : AreParts vertices label count wires n regions) where
  -- the strips there are followed by the next one
  all_before : (r : List Strip) → slice_get regions (slice_index label n * wires + v.wire) ≡ Some r → AllByRecursion (λ s. Follows s v.strip) r
  all_before r at = recursion_from_All (λ s. Follows s v.strip) r (λ k s lt.
      let (i, before, at_i, is) = h.inside (slice_index label n) v.wire r k (get_or r k s) label_in wire_in at (slice_get-get_or r k s lt) in
      follows (get_or r k s) (ordered.behind i n (record { wire = v.wire; strip = get_or r k s }) v before at_i at_v))
    where
      follows : (s : Strip) → IsBehind (record { wire = v.wire; strip = s }) v → Follows s v.strip
      follows s (inl later) = absurd (omega (arith, later))
      follows s (inr (same, f)) = f

  pub more_banded : (r : List Strip) → slice_get regions (slice_index label n * wires + v.wire) ≡ Some r → Banded (r ++ v.strip ∷ [])
  more_banded r at = record { each = banded-push r v.strip (h.banded.each (slice_index label n * wires + v.wire) r at).each (ordered.strip n v at_v) (all_before r at) }

  module _ (r : List Strip) (at_r : slice_get regions (slice_index label n * wires + v.wire) ≡ Some r) where
    last_at : slice_get (r ++ v.strip ∷ []) (length r) ≡ Some v.strip
    last_at = let none : length r ≡ length r + 0 = omega arith in ap (λ m. slice_get (r ++ v.strip ∷ []) m) none ∙ get_right r (v.strip ∷ []) 0

    only_last : (j : ℕ) (s : Strip) → slice_get (v.strip ∷ []) j ≡ Some s → v.strip ≡ s
    only_last zero s at = some_one v.strip s at
    only_last (suc j) s at = no_some s at

    pub parts_more : AreParts vertices label count wires (n + 1) (slice_set regions (slice_index label n * wires + v.wire) (r ++ v.strip ∷ []))
    parts_more = record {
      each = length-set regions (slice_index label n * wires + v.wire) (r ++ v.strip ∷ []) ∙ h.each;
      banded = record {
        each = λ w q at. elim (get_set regions (slice_index label n * wires + v.wire) w (r ++ v.strip ∷ []) q at) [
          | inl here ↦ subst Banded (sym here.1) (more_banded r at_r)
          | inr other ↦ h.banded.each w q other.1
        ];
      };
      of = λ e q k s at at_k. elim (get_set regions (slice_index label n * wires + v.wire) e (r ++ v.strip ∷ []) q at) [
        | inl here ↦ elim (get_append r (v.strip ∷ []) k s (ap (λ (l : List Strip). slice_get l k) (sym here.1) ∙ at_k)) [
          | inl old ↦ h.of (slice_index label n * wires + v.wire) r k s at_r old.1
          | inr new ↦ (n, v, at_v, only_last new.0 s new.2)
        ]
        | inr other ↦ h.of e q k s other.1 at_k
      ];
      inside = λ net wire q k s net_in wire_in' at at_k. elim (get_set regions (slice_index label n * wires + v.wire) (net * wires + wire) (r ++ v.strip ∷ []) q at) [
        | inl here ↦ elim (get_append r (v.strip ∷ []) k s (ap (λ (l : List Strip). slice_get l k) (sym here.1) ∙ at_k)) [
          | inl old ↦ let (i, lt, at_i, is) = h.inside net wire r k s net_in wire_in' (ap (λ m. slice_get regions m) here.0 ∙ at_r) old.1 in (i, omega (arith, lt), at_i, is)
          | inr new ↦
              let (same_net, same_wire) = one_place wires net (slice_index label n) wire v.wire wire_in' wire_in here.0 in
              (n, omega arith, at_v ∙ moved v wire s (sym same_wire) (only_last new.0 s new.2), sym same_net)
        ]
        | inr other ↦ let (i, lt, at_i, is) = h.inside net wire q k s net_in wire_in' other.1 at_k in (i, omega (arith, lt), at_i, is)
      ];
      whole = λ i u q lt at_i at. elim (get_set regions (slice_index label n * wires + v.wire) (slice_index label i * wires + u.wire) (r ++ v.strip ∷ []) q at) [
        | inl here ↦ elim (cases_order i n) [
          | inl same ↦ let one : v ≡ u = some_one v u (sym at_v ∙ ap (λ m. slice_get vertices m) (sym same) ∙ at_i) in
              (length r, ap (λ (l : List Strip). slice_get l (length r)) here.1 ∙ last_at ∙ ap (λ (x : Vertex). Some x.strip) one)
          | inr (inl less) ↦ let (k, at_k) = h.whole i u r less at_i (ap (λ m. slice_get regions m) here.0 ∙ at_r) in
              (k, ap (λ (l : List Strip). slice_get l k) here.1 ∙ get_left r (v.strip ∷ []) k u.strip at_k)
          | inr (inr more) ↦ absurd (omega (arith, lt, more))
        ]
        | inr other ↦ elim (cases_order i n) [
          | inl same ↦ absurd (other.0 (let one : v ≡ u = some_one v u (sym at_v ∙ ap (λ m. slice_get vertices m) (sym same) ∙ at_i) in
              ap (λ m. slice_index label m * wires + u.wire) same ∙ ap (λ (x : Vertex). slice_index label n * wires + x.wire) (sym one)))
          | inr (inl less) ↦ h.whole i u q less at_i other.1
          | inr (inr more) ↦ absurd (omega (arith, lt, more))
        ]
      ];
    } where
      moved : (u : Vertex) (w : ℕ) (s : Strip) → u.wire ≡ w → u.strip ≡ s → Some u ≡ Some (record { wire = w; strip = s })
      moved u w s same_w same_s = λ i. Some (record { wire = same_w i; strip = same_s i })

-- No coordinate of the regions is further from 0 than those of the wires.
pub parts_within : (bound : ℕ) (wires : List (List Strip)) (label : List ℕ) (count each n : ℕ) (regions : List (List Strip)) → AreParts (vertices_of 0 wires) label count each n regions → AreRegionsWithin bound wires → AreRegionsWithin bound regions
parts_within bound wires label count each n regions h within = record {
  each = λ e r lt. record {
    each = λ k s k_in.
        let (i, v, at_i, is) = h.of e (get_or regions e r) k (get_or (get_or regions e r) k s) (slice_get-get_or regions e r lt) (slice_get-get_or (get_or regions e r) k s k_in) in
        let (w, q, j, same, at_w, at_j) = of_wire 0 wires i v at_i in
        let all = within.each w q (slice_get_within wires w q at_w) in
        let here : AreStripsWithin bound q = subst (λ (l : List Strip). AreStripsWithin bound l) (get_or_from_slice_get wires w q q at_w) all in
        subst (IsStripWithin bound) is (subst (IsStripWithin bound) (get_or_from_slice_get q j v.strip v.strip at_j) (here.each j v.strip (slice_get_within q j v.strip at_j)));
  };
}

pub empty_none : AreEmpty 0 []
empty_none = record { each = refl; none = λ k r at. no_some r at }

pub empty_more : (n : ℕ) (regions new : List (List Strip)) (r : List Strip) → r ≡ [] → new ≡ regions ++ r ∷ [] → AreEmpty n regions → AreEmpty (n + 1) new
empty_more n regions new r none is h = subst (λ l. AreEmpty (n + 1) l) (sym is) (record {
  each = length_more regions ∙ ap (λ m. m + 1) h.each;
  none = λ k q at. elim (get_append regions (r ∷ []) k q at) [
    | inl old ↦ h.none k q old.1
    | inr new' ↦ last new'.0 q new'.2
  ];
}) where
  length_more : (xs : List (List Strip)) → length (xs ++ r ∷ []) ≡ length xs + 1
  length_more [] = refl
  length_more (x ∷ xs) = omega (arith, length_more xs)

  last : (j : ℕ) (q : List Strip) → slice_get (r ∷ []) j ≡ Some q → q ≡ []
  last zero q at = sym (some_one r q at) ∙ none
  last (suc j) q at = no_some q at

-- ---- the same, as the loop has it

pub place_in : (count wires l w : ℕ) → l < count → w < wires → l * wires + w < count * wires
place_in zero wires l w l_in w_in = absurd (omega (arith, l_in))
place_in (suc count) wires zero w l_in w_in = omega (arith, w_in)
place_in (suc count) wires (suc l) w l_in w_in = omega (arith, place_in count wires l w (omega (arith, l_in)) w_in)

module _ (vertices : List Vertex) (label : List ℕ) (count wires n : ℕ) (regions : List (List Strip)) (d : Vertex) (c r : List Strip) (ordered : AreOrdered vertices) (lt : n < length vertices) (each : length label ≡ length vertices)
    (labels : All (λ k. k < count) label) (of_wires : All (λ v. v.wire < wires) vertices) (h : AreParts vertices label count wires n regions)
    (is : r ≡ get_or regions (slice_index label n * wires + (get_or vertices n d).wire) c) where
  at_vertex : slice_get vertices n ≡ Some (get_or vertices n d)
  at_vertex = slice_get-get_or vertices n d lt

  label_in : slice_index label n < count
  label_in = labels n 0 (omega (arith, lt, each))

  wire_in : (get_or vertices n d).wire < wires
  wire_in = of_wires n d lt

  region_at : slice_get regions (slice_index label n * wires + (get_or vertices n d).wire) ≡ Some r
  region_at = slice_get-get_or regions (slice_index label n * wires + (get_or vertices n d).wire) c (omega (arith, h.each, place_in count wires (slice_index label n) (get_or vertices n d).wire label_in wire_in)) ∙ ap (λ (x : List Strip). Some x) (sym is)

  pub filled_banded : Banded (r ++ (get_or vertices n d).strip ∷ [])
  filled_banded = more_banded vertices label count wires n regions (get_or vertices n d) ordered at_vertex label_in wire_in h r region_at

  pub filled_more : (new : List Strip) → new ≡ r ++ (get_or vertices n d).strip ∷ [] → AreParts vertices label count wires (n + 1) (slice_set regions (slice_index label n * wires + (get_or vertices n d).wire) new)
  filled_more new same = subst (λ (x : List Strip). AreParts vertices label count wires (n + 1) (slice_set regions (slice_index label n * wires + (get_or vertices n d).wire) x)) (sym same)
      (parts_more vertices label count wires n regions (get_or vertices n d) ordered at_vertex label_in wire_in h r region_at)
