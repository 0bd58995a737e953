-- Lists that are read from others, element by element.
use Rattle.std.proofs.Common.{◌≡◌, ℕ, zero, suc, ◌+◌, ◌<◌, ◌≤◌, ◌⊎◌, List, [], ◌∷◌, ◌++◌, length, take, refl, sym, ap, ◌∙◌, subst, arith, inl, inr, slice_get, slice_index, get_or, Some, append_assoc}
use Rattle.std.specs.List.{AllZip}
use Rattle.std.proofs.lemmas.Bool.{cases_order}
use Rattle.std.proofs.lemmas.List.{length_push, take_more, take_all, get_or_push, get_or_append_left}
use Rattle.std.proofs.lemmas.Option.{slice_get-get_or, get_or_from_slice_get}
use Rattle.net_trace.specs.declared.node.Node.{Node}
use Rattle.net_trace.specs.declared.wiring.Vertex.{Vertex}
use Rattle.net_trace.specs.Wirings.{corner, AreCorners, ArePicked, AreRenumbered, AreEndsOf}
use Rattle.net_trace.proofs.Lists.{none_more}
use Rattle.net_trace.proofs.VertexLists.{get_right}

pub same_default : (xs : List ℕ) (k d : ℕ) → k < length xs → get_or xs k d ≡ slice_index xs k
same_default xs k d lt = get_or_from_slice_get xs k (slice_index xs k) d (slice_get-get_or xs k 0 lt)

get_last : {A : Type 0} (xs : List A) (k : ℕ) (x : A) → k ≡ length xs → slice_get (xs ++ x ∷ []) k ≡ Some x
get_last xs k x is = let none : k ≡ length xs + 0 = omega (arith, is) in ap (λ n. slice_get (xs ++ x ∷ []) n) none ∙ get_right xs (x ∷ []) 0

get_before : {A : Type 0} (xs : List A) (k : ℕ) (x : A) → k < length xs → slice_get (xs ++ x ∷ []) k ≡ slice_get xs k
get_before [] k x lt = absurd (omega (arith, lt))
get_before (y ∷ xs) zero x lt = refl
get_before (y ∷ xs) (suc k) x lt = get_before xs k x (omega (arith, lt))

pub corners_none : (vertices : List Vertex) (indices : List ℕ) (nodes : List Node) → nodes ≡ [] → AreCorners vertices indices 0 nodes
corners_none vertices indices nodes is = record { each = ap (λ l. length l) is; at = λ k v lt. absurd (omega (arith, lt)) }

pub corners_more : (vertices : List Vertex) (indices : List ℕ) (n : ℕ) (nodes new : List Node) (v : Node) (d : ℕ) (e : Vertex) → n < length indices → v ≡ corner (get_or vertices (get_or indices n d) e) → new ≡ nodes ++ v ∷ []
    → AreCorners vertices indices n nodes → AreCorners vertices indices (n + 1) new
corners_more vertices indices n nodes new v d e lt is_v is h = record {
  each = ap (λ l. length l) is ∙ length_push nodes v ∙ ap (λ m. m + 1) h.each;
  at = λ k u less at_u. ap (λ l. slice_get l k) is ∙ by_place k u at_u (cases_order k n) less;
} where
  by_place : (k : ℕ) (u : Vertex) → slice_get vertices (slice_index indices k) ≡ Some u → (k ≡ n) ⊎ ((k < n) ⊎ (n < k)) → k < n + 1 → slice_get (nodes ++ v ∷ []) k ≡ Some (corner u)
  by_place k u at_u (inl same) less =
      let here : get_or vertices (get_or indices n d) e ≡ u = get_or_from_slice_get vertices (get_or indices n d) u e (ap (λ m. slice_get vertices m) (same_default indices n d lt ∙ ap (λ m. slice_index indices m) (sym same)) ∙ at_u) in
      get_last nodes k v (same ∙ sym h.each) ∙ ap (λ x. Some x) is_v ∙ ap (λ (x : Vertex). Some (corner x)) here
  by_place k u at_u (inr (inl before)) less = get_before nodes k v (omega (arith, before, h.each)) ∙ h.at k u before at_u
  by_place k u at_u (inr (inr after)) less = absurd (omega (arith, less, after))

pub picked_none : (from : List Node) (indices : List ℕ) (nodes : List Node) → nodes ≡ [] → ArePicked from indices 0 nodes
picked_none from indices nodes is = record { each = ap (λ l. length l) is; at = λ k lt. absurd (omega (arith, lt)) }

pub picked_more : (from : List Node) (indices : List ℕ) (n : ℕ) (nodes new : List Node) (d : ℕ) (e : Node) → n < length indices → get_or indices n d < length from → new ≡ nodes ++ get_or from (get_or indices n d) e ∷ []
    → ArePicked from indices n nodes → ArePicked from indices (n + 1) new
picked_more from indices n nodes new d e lt inside is h = record {
  each = ap (λ l. length l) is ∙ length_push nodes (get_or from (get_or indices n d) e) ∙ ap (λ m. m + 1) h.each;
  at = λ k less. ap (λ l. slice_get l k) is ∙ by_place k (cases_order k n) less;
} where
  by_place : (k : ℕ) → (k ≡ n) ⊎ ((k < n) ⊎ (n < k)) → k < n + 1 → slice_get (nodes ++ get_or from (get_or indices n d) e ∷ []) k ≡ slice_get from (slice_index indices k)
  by_place k (inl same) less =
      get_last nodes k (get_or from (get_or indices n d) e) (same ∙ sym h.each) ∙ sym (slice_get-get_or from (get_or indices n d) e inside) ∙ ap (λ m. slice_get from m) (same_default indices n d lt ∙ ap (λ m. slice_index indices m) (sym same))
  by_place k (inr (inl before)) less = get_before nodes k (get_or from (get_or indices n d) e) (omega (arith, before, h.each)) ∙ h.at k before
  by_place k (inr (inr after)) less = absurd (omega (arith, less, after))

pub numbered_none : (second label new : List ℕ) → new ≡ [] → AreRenumbered second label 0 new
numbered_none second label new is = record { each = ap (λ l. length l) is; at = λ k lt. absurd (omega (arith, lt)) }

pub numbered_more : (second label : List ℕ) (n : ℕ) (old new : List ℕ) (d e : ℕ) → n < length label → get_or label n d < length second → new ≡ old ++ get_or second (get_or label n d) e ∷ [] → AreRenumbered second label n old → AreRenumbered second label (n + 1) new
numbered_more second label n old new d e lt inside is h = record {
  each = ap (λ l. length l) is ∙ length_push old (get_or second (get_or label n d) e) ∙ ap (λ m. m + 1) h.each;
  at = λ k less. ap (λ l. slice_index l k) is ∙ by_place k (cases_order k n) less;
} where
  by_place : (k : ℕ) → (k ≡ n) ⊎ ((k < n) ⊎ (n < k)) → k < n + 1 → slice_index (old ++ get_or second (get_or label n d) e ∷ []) k ≡ slice_index second (slice_index label k)
  by_place k (inl same) less =
      get_or_push old (get_or second (get_or label n d) e) 0 k (h.each ∙ sym same) ∙ same_default second (get_or label n d) e inside ∙ ap (λ m. slice_index second m) (same_default label n d lt ∙ ap (λ m. slice_index label m) (sym same))
  by_place k (inr (inl before)) less = get_or_append_left old (get_or second (get_or label n d) e ∷ []) 0 k (omega (arith, before, h.each)) ∙ h.at k before
  by_place k (inr (inr after)) less = absurd (omega (arith, less, after))

zip_push : {A B : Type 0} (R : A → B → Type 0) (xs : List A) (ys : List B) (x : A) (y : B) → AllZip R xs ys → R x y → AllZip R (xs ++ x ∷ []) (ys ++ y ∷ [])
zip_push R [] [] x y h r = (r, tt)
zip_push R [] (b ∷ ys) x y h r = absurd h
zip_push R (a ∷ xs) [] x y h r = absurd h
zip_push R (a ∷ xs) (b ∷ ys) x y h r = (h.0, zip_push R xs ys x y h.1 r)

pub ends_none : (roots : List Node) (pairs : List (ℕ × ℕ)) (old : List (Node × Node)) → AreEndsOf roots pairs 0 old old
ends_none roots pairs old = record { ends = []; added = none_more old; at = none pairs }
  where
    none : (ps : List (ℕ × ℕ)) → AllZip (λ (p : ℕ × ℕ) (e : Node × Node). (slice_get roots p.0 ≡ Some e.0) × (slice_get roots p.1 ≡ Some e.1)) (take 0 ps) []
    none [] = tt
    none (p ∷ ps) = tt

pub ends_more : (roots : List Node) (pairs : List (ℕ × ℕ)) (n : ℕ) (old now new : List (Node × Node)) (d : ℕ × ℕ) (e f : Node) → n < length pairs → (get_or pairs n d).0 < length roots → (get_or pairs n d).1 < length roots
    → new ≡ now ++ (get_or roots (get_or pairs n d).0 e, get_or roots (get_or pairs n d).1 f) ∷ [] → AreEndsOf roots pairs n old now → AreEndsOf roots pairs (n + 1) old new
ends_more roots pairs n old now new d e f lt first second is h = record {
  ends = h.ends ++ (get_or roots (get_or pairs n d).0 e, get_or roots (get_or pairs n d).1 f) ∷ [];
  added = is ∙ ap (λ l. l ++ (get_or roots (get_or pairs n d).0 e, get_or roots (get_or pairs n d).1 f) ∷ []) h.added ∙ append_assoc old h.ends ((get_or roots (get_or pairs n d).0 e, get_or roots (get_or pairs n d).1 f) ∷ []);
  at = subst (λ (l : List (ℕ × ℕ)). AllZip (λ (p : ℕ × ℕ) (q : Node × Node). (slice_get roots p.0 ≡ Some q.0) × (slice_get roots p.1 ≡ Some q.1)) l (h.ends ++ (get_or roots (get_or pairs n d).0 e, get_or roots (get_or pairs n d).1 f) ∷ [])) (sym (take_more pairs n d lt))
      (zip_push (λ (p : ℕ × ℕ) (q : Node × Node). (slice_get roots p.0 ≡ Some q.0) × (slice_get roots p.1 ≡ Some q.1)) (take n pairs) h.ends (get_or pairs n d) (get_or roots (get_or pairs n d).0 e, get_or roots (get_or pairs n d).1 f) h.at
      (slice_get-get_or roots (get_or pairs n d).0 e first, slice_get-get_or roots (get_or pairs n d).1 f second));
}

pub ends_all : (roots : List Node) (pairs : List (ℕ × ℕ)) (n : ℕ) (old new : List (Node × Node)) → length pairs ≤ n → AreEndsOf roots pairs n old new → AreEndsOf roots pairs (length pairs) old new
ends_all roots pairs n old new le h = record {
  ends = h.ends;
  added = h.added;
  at = subst (λ (l : List (ℕ × ℕ)). AllZip (λ (p : ℕ × ℕ) (q : Node × Node). (slice_get roots p.0 ≡ Some q.0) × (slice_get roots p.1 ≡ Some q.1)) l h.ends) (take_all n pairs le ∙ sym (take_all (length pairs) pairs (omega arith))) h.at;
}
