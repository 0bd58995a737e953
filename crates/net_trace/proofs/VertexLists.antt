-- The list of the strips of all wires: which wire and which strip has which index.
use Rattle.std.proofs.Common.{◌≡◌, ℕ, zero, suc, ◌+◌, ◌<◌, ◌≤◌, ◌⊎◌, List, [], ◌∷◌, ◌++◌, length, take, refl, sym, ap, ◌∙◌, subst, arith, inl, inr, slice_get, get_or, Some, length-append, append_assoc}
use Rattle.std.specs.List.{All}
use Rattle.std.proofs.lemmas.List.Elements.{All-from_recursion}
use Rattle.std.proofs.lemmas.Option.{slice_get_within, get_or_from_slice_get}
use Rattle.link_classes.proofs.UniqueNumbers.{some_one, no_some}
use Rattle.mask_region.specs.declared.strips.Strip.{Strip}
use Rattle.mask_region.specs.Strips.{IsStrip, Follows, IsBanded}
use Rattle.net_trace.specs.declared.wiring.Vertex.{Vertex}
use Rattle.net_trace.specs.Wirings.{strips_of, vertices_of, AreAllBanded, IsBehind, AreOrdered}

-- ---- lists that are put together

pub get_left : {A : Type 0} (xs ys : List A) (i : ℕ) (x : A) → slice_get xs i ≡ Some x → slice_get (xs ++ ys) i ≡ Some x
get_left [] ys i x h = no_some x h
get_left (z ∷ xs) ys zero x h = h
get_left (z ∷ xs) ys (suc i) x h = get_left xs ys i x h

pub get_right : {A : Type 0} (xs ys : List A) (j : ℕ) → slice_get (xs ++ ys) (length xs + j) ≡ slice_get ys j
get_right [] ys j = let zero_more : 0 + j ≡ j = omega arith in ap (λ n. slice_get ys n) zero_more
get_right (x ∷ xs) ys j = let next : suc (length xs) + j ≡ suc (length xs + j) = omega arith in ap (λ n. slice_get (x ∷ (xs ++ ys)) n) next ∙ get_right xs ys j

-- each element of the two is one of the first or of the second
pub get_append : {A : Type 0} (xs ys : List A) (i : ℕ) (x : A) → slice_get (xs ++ ys) i ≡ Some x
    → ((i < length xs) × (slice_get xs i ≡ Some x)) ⊎ ((j : ℕ) × (i ≡ length xs + j) × (slice_get ys j ≡ Some x))
get_append [] ys i x h = inr (i, omega arith, h)
get_append (z ∷ xs) ys zero x h = inl (omega arith, h)
get_append (z ∷ xs) ys (suc i) x h = elim (get_append xs ys i x h) [
  | inl found ↦ inl (omega (arith, found.0), found.1)
  | inr found ↦ inr (found.0, omega (arith, found.1), found.2)
]

-- ---- strips of one wire

strips_get : (w : ℕ) (r : List Strip) (k : ℕ) (s : Strip) → slice_get r k ≡ Some s → slice_get (strips_of w r) k ≡ Some (record { wire = w; strip = s })
strips_get w [] k s h = no_some s h
strips_get w (t ∷ r) zero s h = ap (λ (x : Strip). Some (record { wire = w; strip = x })) (some_one t s h)
strips_get w (t ∷ r) (suc k) s h = strips_get w r k s h

strips_found : (w : ℕ) (r : List Strip) (k : ℕ) (v : Vertex) → slice_get (strips_of w r) k ≡ Some v → (v.wire ≡ w) × (slice_get r k ≡ Some v.strip)
strips_found w [] k v h = no_some v h
strips_found w (t ∷ r) zero v h = let e : record { wire = w; strip = t } ≡ v = some_one (record { wire = w; strip = t }) v h in (sym (ap (λ (x : Vertex). x.wire) e), ap (λ (x : Vertex). Some x.strip) e)
strips_found w (t ∷ r) (suc k) v h = strips_found w r k v h

pub length_strips : (w : ℕ) (r : List Strip) → length (strips_of w r) ≡ length r
length_strips w [] = refl
length_strips w (s ∷ r) = ap suc (length_strips w r)

pub strips_more : (w : ℕ) (xs : List Strip) (s : Strip) → strips_of w (xs ++ s ∷ []) ≡ strips_of w xs ++ record { wire = w; strip = s } ∷ []
strips_more w [] s = refl
strips_more w (x ∷ xs) s = ap (λ vs. record { wire = w; strip = x } ∷ vs) (strips_more w xs s)

-- ---- strips of all wires

pub vertices_more : (b : ℕ) (rs : List (List Strip)) (r : List Strip) → vertices_of b (rs ++ r ∷ []) ≡ vertices_of b rs ++ strips_of (b + length rs) r
vertices_more b [] r = subst (λ (n : ℕ). strips_of b r ++ [] ≡ strips_of n r) (omega arith) (append_none (strips_of b r))
  where
    append_none : (xs : List Vertex) → xs ++ [] ≡ xs
    append_none [] = refl
    append_none (x ∷ xs) = ap (λ l. x ∷ l) (append_none xs)
vertices_more b (q ∷ rs) r =
    ap (λ l. strips_of b q ++ l) (vertices_more (b + 1) rs r)
    ∙ sym (append_assoc (strips_of b q) (vertices_of (b + 1) rs) (strips_of (b + 1 + length rs) r))
    ∙ ap (λ n. (strips_of b q ++ vertices_of (b + 1) rs) ++ strips_of n r) (omega arith)

pub at_start : (b : ℕ) (wires : List (List Strip)) (w : ℕ) (r : List Strip) (k : ℕ) (s : Strip) → slice_get wires w ≡ Some r → slice_get r k ≡ Some s
    → slice_get (vertices_of b wires) (length (vertices_of b (take w wires)) + k) ≡ Some (record { wire = b + w; strip = s })
at_start b [] w r k s at_w at_k = no_some r at_w
at_start b (q ∷ wires) zero r k s at_w at_k =
    let here : slice_get q k ≡ Some s = ap (λ (l : List Strip). slice_get l k) (some_one q r at_w) ∙ at_k in
    ap (λ n. slice_get (strips_of b q ++ vertices_of (b + 1) wires) n) (omega arith) ∙ get_left (strips_of b q) (vertices_of (b + 1) wires) k (record { wire = b; strip = s }) (strips_get b q k s here) ∙ ap (λ n. Some (record { wire = n; strip = s })) (omega arith)
at_start b (q ∷ wires) (suc w) r k s at_w at_k =
    ap (λ n. slice_get (strips_of b q ++ vertices_of (b + 1) wires) n) (ap (λ n. n + k) (length-append (strips_of b q) (vertices_of (b + 1) (take w wires))) ∙ omega arith)
    ∙ get_right (strips_of b q) (vertices_of (b + 1) wires) (length (vertices_of (b + 1) (take w wires)) + k)
    ∙ at_start (b + 1) wires w r k s at_w at_k
    ∙ ap (λ n. Some (record { wire = n; strip = s })) (omega arith)

-- each vertex is a strip of its wire
pub of_wire : (b : ℕ) (wires : List (List Strip)) (i : ℕ) (v : Vertex) → slice_get (vertices_of b wires) i ≡ Some v
    → (w : ℕ) × (r : List Strip) × (k : ℕ) × (v.wire ≡ b + w) × (slice_get wires w ≡ Some r) × (slice_get r k ≡ Some v.strip)
of_wire b [] i v h = no_some v h
of_wire b (q ∷ wires) i v h = elim (get_append (strips_of b q) (vertices_of (b + 1) wires) i v h) [
  | inl found ↦ let (same, at) = strips_found b q i v found.1 in (0, q, i, omega (arith, same), refl, at)
  | inr found ↦ let (w, r, k, same, at_w, at_k) = of_wire (b + 1) wires found.0 v found.2 in (suc w, r, k, omega (arith, same), at_w, at_k)
]

-- ---- order

strips_behind : (w : ℕ) (r : List Strip) (i j : ℕ) (u v : Vertex) → IsBanded r → i < j → slice_get (strips_of w r) i ≡ Some u → slice_get (strips_of w r) j ≡ Some v → Follows u.strip v.strip
strips_behind w [] i j u v banded lt at_i at_j = no_some u at_i
strips_behind w (s ∷ r) zero zero u v banded lt at_i at_j = absurd (omega (arith, lt))
strips_behind w (s ∷ r) zero (suc j) u v banded lt at_i at_j =
    let here : s ≡ u.strip = ap (λ (x : Vertex). x.strip) (some_one (record { wire = w; strip = s }) u at_i) in
    let there = strips_found w r j v at_j in
    let all : All (Follows s) r = All-from_recursion (Follows s) r banded.1 in
    let found : Follows s (get_or r j v.strip) = all j v.strip (slice_get_within r j v.strip there.1) in
    subst (λ (t : Strip). Follows t v.strip) here (subst (λ (t : Strip). Follows s t) (get_or_from_slice_get r j v.strip v.strip there.1) found)
strips_behind w (s ∷ r) (suc i) zero u v banded lt at_i at_j = absurd (omega (arith, lt))
strips_behind w (s ∷ r) (suc i) (suc j) u v banded lt at_i at_j = strips_behind w r i j u v banded.2 (omega (arith, lt)) at_i at_j

later_wire : (b : ℕ) (wires : List (List Strip)) (i : ℕ) (v : Vertex) → slice_get (vertices_of b wires) i ≡ Some v → b ≤ v.wire
later_wire b wires i v h = let (w, r, k, same, at_w, at_k) = of_wire b wires i v h in omega (arith, same)

behind : (b : ℕ) (wires : List (List Strip)) (i j : ℕ) (u v : Vertex) → AreAllBanded wires → i < j → slice_get (vertices_of b wires) i ≡ Some u → slice_get (vertices_of b wires) j ≡ Some v → IsBehind u v
behind b [] i j u v banded lt at_i at_j = no_some u at_i
behind b (q ∷ wires) i j u v banded lt at_i at_j = elim (get_append (strips_of b q) (vertices_of (b + 1) wires) i u at_i) [
  | inl first ↦ elim (get_append (strips_of b q) (vertices_of (b + 1) wires) j v at_j) [
    | inl second ↦ inr ((strips_found b q i u first.1).0 ∙ sym (strips_found b q j v second.1).0, strips_behind b q i j u v (banded.each 0 q refl).each lt first.1 second.1)
    | inr second ↦ inl (omega (arith, (strips_found b q i u first.1).0, later_wire (b + 1) wires second.0 v second.2))
  ]
  | inr first ↦ elim (get_append (strips_of b q) (vertices_of (b + 1) wires) j v at_j) [
    | inl second ↦ absurd (omega (arith, lt, first.1, second.0))
    | inr second ↦ behind (b + 1) wires first.0 second.0 u v (record { each = λ w r at. banded.each (suc w) r at }) (omega (arith, lt, first.1, second.1)) first.2 second.2
  ]
]

pub strip_in : (r : List Strip) (k : ℕ) (s : Strip) → IsBanded r → slice_get r k ≡ Some s → IsStrip s
strip_in [] k s banded at = no_some s at
strip_in (t ∷ r) zero s banded at = subst IsStrip (some_one t s at) banded.0
strip_in (t ∷ r) (suc k) s banded at = strip_in r k s banded.2 at

pub vertices_ordered : (wires : List (List Strip)) → AreAllBanded wires → AreOrdered (vertices_of 0 wires)
vertices_ordered wires banded = record {
  strip = λ i u at. let (w, r, k, same, at_w, at_k) = of_wire 0 wires i u at in strip_in r k u.strip (banded.each w r at_w).each at_k;
  behind = λ i j u v lt at_i at_j. behind 0 wires i j u v banded lt at_i at_j;
}
