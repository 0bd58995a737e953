-- The first of the names that are bound to a net.
use Rattle.std.proofs.Common.{◌≡◌, ℕ, ◌+◌, ◌<◌, inl, inr, Bool, true, false, List, ◌++◌, ◌∷◌, [], length, get_or, slice_set, Option, Some, None, slice_get, if◌then◌else◌, refl, sym, ap, ◌∙◌, subst, arith}
use Rattle.std.specs.Option.{option_copied}
use Rattle.std.specs.Ordering.{nat_cmp, is_le, is_lt}
use Rattle.std.specs.declared.cmp.Ordering.{Ordering}
use Rattle.std.specs.declared.cmp.Ordering.TheVariants.{Less, Equal, Greater}
use Rattle.std.specs.Cmp.Lexicographic.{slice_cmp}
use Rattle.std.proofs.lemmas.Bool.{cases_order}
use Rattle.std.proofs.lemmas.Option.{get_or_from_slice_get, slice_get_read}
use Rattle.std.proofs.lemmas.Grind.{get_or-set_at}
use Rattle.std.proofs.lemmas.List.{get_or-set_other, length-set, length-append}
use Rattle.std.proofs.lemmas.Cmp.{nat_list_cmp_total}
use Rattle.std.proofs.lemmas.List.MinMax.{ranks_by}
use Rattle.layout_extract.specs.declared.tags.Tag.{Tag}
use Rattle.layout_extract.specs.Tags.{HasLeastName, IsLeast, lesser_name, IsNameBy, name_or}
use Rattle.layout_extract.proofs.Places.{one_at, push_cases}
use Rattle.net_trace.proofs.Lists.{last_or_before}

-- no name comes before it, in the words of both tests
abbrev compare : List ℕ → List ℕ → Ordering
compare = slice_cmp nat_cmp

not_before : (x y : List ℕ) → is_lt (compare y x) ≡ false → is_le (compare x y) ≡ true
not_before x y h = by_order (compare x y) (compare y x) (nat_list_cmp_total.antisymm y x) h
  where
    by_order : (o p : Ordering) → p ≡ Rattle.std.specs.Ordering.ordering_reverse o → is_lt p ≡ false → is_le o ≡ true
    by_order Less p e h = refl
    by_order Equal p e h = refl
    by_order Greater p e h = let none : ⊥ = cc in absurd none

before_not : (x y : List ℕ) → is_le (compare x y) ≡ true → is_lt (compare y x) ≡ false
before_not x y h = by_order (compare x y) (compare y x) (nat_list_cmp_total.antisymm y x) h
  where
    by_order : (o p : Ordering) → p ≡ Rattle.std.specs.Ordering.ordering_reverse o → is_le o ≡ true → is_lt p ≡ false
    by_order Less p e h = ap (λ q. is_lt q) e
    by_order Equal p e h = ap (λ q. is_lt q) e
    by_order Greater p e h = let none : ⊥ = cc in absurd none

le_self : (x : List ℕ) → is_le (compare x x) ≡ true
le_self x = not_before x x (by_order (compare x x) (nat_list_cmp_total.antisymm x x))
  where
    by_order : (o : Ordering) → o ≡ Rattle.std.specs.Ordering.ordering_reverse o → is_lt o ≡ false
    by_order Less e = let none : ⊥ = cc in absurd none
    by_order Equal e = refl
    by_order Greater e = refl

le_trans : (x y z : List ℕ) → is_le (compare x y) ≡ true → is_le (compare y z) ≡ true → is_le (compare x z) ≡ true
le_trans x y z first second = not_before x z ((ranks_by nat_list_cmp_total (λ (n : List ℕ). n)).chain z y x (before_not y z second) (before_not x y first))

lt_le : (o : Ordering) → is_lt o ≡ true → is_le o ≡ true
lt_le Less e = refl
lt_le Equal e = let none : ⊥ = cc in absurd none
lt_le Greater e = let none : ⊥ = cc in absurd none

module _ (tags : List Tag) (i : ℕ) (t : Tag) (at : slice_get tags i ≡ Some t) where
  -- a tag of another net
  pub least_same : (net : ℕ) (first : Option (List ℕ)) → (t.net.0 ≡ net → ⊥) → IsLeast tags i net first → IsLeast tags (i + 1) net first
  least_same net None other h = record {
    none = λ j s lt at_j of. elim (last_or_before j i lt) [
      | inl less ↦ h.none j s less at_j of
      | inr same ↦ other (ap (λ (u : Tag). u.net.0) (one_at tags i j t s (sym same) at at_j) ∙ of)
    ];
  }
  least_same net (Some name) other h = let early = h.early in record {
    k = h.k;
    tag = h.tag;
    early = omega (arith, early);
    at = h.at;
    is = h.is;
    of_net = h.of_net;
    least = λ j s lt at_j of. elim (last_or_before j i lt) [
      | inl less ↦ h.least j s less at_j of
      | inr same ↦ absurd (other (ap (λ (u : Tag). u.net.0) (one_at tags i j t s (sym same) at at_j) ∙ of))
    ];
  }

  here : (net : ℕ) → t.net.0 ≡ net → ((j : ℕ) (s : Tag) → j < i → slice_get tags j ≡ Some s → s.net.0 ≡ net → is_le (compare t.name.now s.name.now) ≡ true) → HasLeastName tags (i + 1) net t.name.now
  here net of least = record {
    k = i;
    tag = t;
    early = omega arith;
    at = at;
    is = refl;
    of_net = of;
    least = λ j s lt at_j of_s. elim (last_or_before j i lt) [
      | inl less ↦ least j s less at_j of_s
      | inr same ↦ subst (λ (u : Tag). is_le (compare t.name.now u.name.now) ≡ true) (one_at tags i j t s (sym same) at at_j) (le_self t.name.now)
    ];
  }

  by_test : (net : ℕ) (first : List ℕ) (b : Bool) → is_lt (compare t.name.now first) ≡ b → t.net.0 ≡ net → HasLeastName tags i net first → HasLeastName tags (i + 1) net (if b then t.name.now else first)
  by_test net first true less of h = here net of (λ j s lt at_j of_s. le_trans t.name.now first s.name.now (lt_le (compare t.name.now first) less) (h.least j s lt at_j of_s))
  by_test net first false more of h = let early = h.early in record {
    k = h.k;
    tag = h.tag;
    early = omega (arith, early);
    at = h.at;
    is = h.is;
    of_net = h.of_net;
    least = λ j s lt at_j of_s. elim (last_or_before j i lt) [
      | inl less ↦ h.least j s less at_j of_s
      | inr same ↦ subst (λ (u : Tag). is_le (compare first u.name.now) ≡ true) (one_at tags i j t s (sym same) at at_j) (not_before first t.name.now more)
    ];
  }

  -- a tag of the net
  pub least_more : (net : ℕ) (first : Option (List ℕ)) → t.net.0 ≡ net → IsLeast tags i net first → IsLeast tags (i + 1) net (Some (lesser_name first t.name.now))
  least_more net None of h = here net of (λ j s lt at_j of_s. absurd (h.none j s lt at_j of_s))
  least_more net (Some first) of h = by_test net first (is_lt (compare t.name.now first)) refl of h

pub names_push : (tags : List Tag) (names : List (List ℕ)) (new : List ℕ) → ((net : ℕ) (name : List ℕ) → slice_get names net ≡ Some name → IsNameBy tags net name) → IsNameBy tags (length names) new
    → (net : ℕ) (name : List ℕ) → slice_get (names ++ new ∷ []) net ≡ Some name → IsNameBy tags net name
names_push tags names new h one net name at = elim (push_cases names new net name at) [
  | inl old ↦ h net name old
  | inr (same, is) ↦ subst (λ n. IsNameBy tags n name) (sym same) (subst (λ x. IsNameBy tags (length names) x) is one)
]

-- one more tag: the name of its net is set
pub least_set : {A : Type 0} (seen : A → Option (List ℕ)) (tags : List Tag) (i : ℕ) (t : Tag) → slice_get tags i ≡ Some t → (least : List A) (d old y : A) (count : ℕ) → length least ≡ count → t.net.0 < count → slice_get least t.net.0 ≡ Some old
    → seen y ≡ Some (lesser_name (seen old) t.name.now) → ((net : ℕ) → net < count → IsLeast tags i net (seen (get_or least net d))) → (net : ℕ) → net < count → IsLeast tags (i + 1) net (seen (get_or (slice_set least t.net.0 y) net d))
least_set seen tags i t at least d old y count size lt at_old is h net below = elim (cases_order net t.net.0) [
  | inl same ↦
      let inside : t.net.0 < length least = omega (arith, lt, size) in
      let new_is : get_or (slice_set least t.net.0 y) net d ≡ y = get_or-set_at least t.net.0 net y d same inside in
      let old_is : get_or least net d ≡ old = ap (λ n. get_or least n d) same ∙ get_or_from_slice_get least t.net.0 old d at_old in
      subst (λ z. IsLeast tags (i + 1) net (seen z)) (sym new_is) (subst (λ o. IsLeast tags (i + 1) net o) (sym is)
      (least_more tags i t at net (seen old) (sym same) (subst (λ z. IsLeast tags i net (seen z)) old_is (h net below))))
  | inr (inl less) ↦ other (λ same. omega (arith, same, less))
  | inr (inr more) ↦ other (λ same. omega (arith, same, more))
]
  where
    other : (net ≡ t.net.0 → ⊥) → IsLeast tags (i + 1) net (seen (get_or (slice_set least t.net.0 y) net d))
    other apart = subst (λ z. IsLeast tags (i + 1) net (seen z)) (sym (get_or-set_other least t.net.0 net y d apart))
        (least_same tags i t at net (seen (get_or least net d)) (λ same. apart (sym same)) (h net below))

pub size_set : {A : Type 0} (least : List A) (k : ℕ) (y : A) (count : ℕ) → length least ≡ count → length (slice_set least k y) ≡ count
size_set least k y count size = length-set least k y ∙ size

-- one name more
pub named_more : {A : Type 0} (seen : A → Option (List ℕ)) (tags : List Tag) (count : ℕ) (least lent : List A) (d : A) → lent ≡ least → length least ≡ count → ((net : ℕ) → net < count → IsLeast tags (length tags) net (seen (get_or least net d)))
    → (names : List (List ℕ)) (k : ℕ) (first : A) (name : List ℕ) → (length names ≡ k) × ((net : ℕ) (name : List ℕ) → slice_get names net ≡ Some name → IsNameBy tags net name) → k < length lent → first ≡ get_or lent k first → name ≡ name_or k (seen first)
    → (length (names ++ name ∷ []) ≡ k + 1) × ((net : ℕ) (x : List ℕ) → slice_get (names ++ name ∷ []) net ≡ Some x → IsNameBy tags net x)
named_more seen tags count least lent d lent_is size each names k first name (size_k, h) lt is named =
    let below : k < count = omega (arith, lt, size, ap (λ xs. length xs) lent_is) in
    let at : slice_get least k ≡ Some first = ap (λ xs. slice_get xs k) (sym lent_is) ∙ slice_get_read lent (length lent) k first refl lt is in
    let one : IsNameBy tags k name = record { first = seen first; least = subst (λ z. IsLeast tags (length tags) k (seen z)) (get_or_from_slice_get least k first d at) (each k below); is = named } in
    (length-append names (name ∷ []) ∙ ap (λ n. n + 1) size_k, names_push tags names name h (subst (λ n. IsNameBy tags n name) (sym size_k) one))
