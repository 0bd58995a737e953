-- One more number gets the number of its tree: a new one for a root, else that of its parent.
use Rattle.std.proofs.Common.{◌≡◌, ℕ, ◌+◌, ◌<◌, ◌≤◌, List, [], ◌∷◌, ◌++◌, length, refl, sym, ap, ◌∙◌, subst, arith, slice_index, inl, inr, length-append}
use Rattle.std.proofs.lemmas.Bool.{cases_eq}
use Rattle.std.proofs.lemmas.List.{get_or_push, get_or_append_left}
use Rattle.link_classes.specs.Linked.{Linked}
use Rattle.link_classes.specs.Forest.{IsForest, AreNumberedTrees}
use Rattle.link_classes.proofs.Chains.{linked_refl, linked_trans}

push_size : (xs : List ℕ) (y : ℕ) → length (xs ++ y ∷ []) ≡ length xs + 1
push_size xs y = length-append xs (y ∷ [])

before : (xs : List ℕ) (y j : ℕ) → j < length xs → slice_index (xs ++ y ∷ []) j ≡ slice_index xs j
before xs y j lt = get_or_append_left xs (y ∷ []) 0 j lt

last : (xs : List ℕ) (y j : ℕ) → length xs ≡ j → slice_index (xs ++ y ∷ []) j ≡ y
last xs y j is = get_or_push xs y 0 j is

-- each place of a list that got one more is an old one or the last
by_place : {P : Type 0} (xs : List ℕ) (y j : ℕ) → j < length (xs ++ y ∷ []) → (j < length xs → P) → (length xs ≡ j → P) → P
by_place xs y j lt old new = elim (cases_eq (length xs) j) [ inl e ↦ new e | inr n ↦ old (omega (arith, lt, push_size xs y, n)) ]

pub numbered_none : (parents : List ℕ) → AreNumberedTrees parents [] []
numbered_none parents = record {
  same = λ x lt. absurd (omega (arith, lt));
  below = λ x lt. absurd (omega (arith, lt));
  reached = λ touch linked x lt. absurd (omega (arith, lt));
  first = λ x lt. absurd (omega (arith, lt));
  inside = λ k lt. absurd (omega (arith, lt));
  own = λ k lt. absurd (omega (arith, lt));
  rising = λ j k jk lt. absurd (omega (arith, lt));
}

module _ (parents label least : List ℕ) (x : ℕ) (forest : IsForest (length parents) parents) (here : length label ≡ x) (inside_ : x < length parents) (h : AreNumberedTrees parents label least) where
  parent_before : (y j : ℕ) → j < length label → slice_index (label ++ y ∷ []) (slice_index parents j) ≡ slice_index (label ++ y ∷ []) j
  parent_before y j lt = before label y (slice_index parents j) (omega (arith, lt, forest.down j (omega (arith, lt, here, inside_)))) ∙ h.same j lt ∙ sym (before label y j lt)

  pub numbered_root : slice_index parents x ≡ x → AreNumberedTrees parents (label ++ length least ∷ []) (least ++ x ∷ [])
  numbered_root root = record {
    same = λ j lt. by_place label (length least) j lt (parent_before (length least) j)
        (λ new. ap (λ k. slice_index more k) (ap (λ k. slice_index parents k) (sym new ∙ here) ∙ root ∙ sym here ∙ new));
    below = λ j lt. by_place label (length least) j lt
        (λ old. subst (λ n. n < length roots) (sym (before label (length least) j old)) (omega (arith, h.below j old, push_size least x)))
        (λ new. subst (λ n. n < length roots) (sym (last label (length least) j new)) (omega (arith, push_size least x)));
    reached = λ touch linked j lt. by_place label (length least) j lt
        (λ old. subst (λ n. Linked touch n j) (sym (root_before j old)) (h.reached touch linked j old))
        (λ new. subst (λ n. Linked touch n j) (sym (root_last j new)) (linked_refl touch j));
    first = λ j lt. by_place label (length least) j lt
        (λ old. subst (λ n. n ≤ j) (sym (root_before j old)) (h.first j old))
        (λ new. subst (λ n. n ≤ j) (sym (root_last j new)) (omega arith));
    inside = λ k lt. by_place least x k lt
        (λ old. subst (λ n. n < length more) (sym (before least x k old)) (omega (arith, h.inside k old, push_size label (length least))))
        (λ new. subst (λ n. n < length more) (sym (last least x k new)) (omega (arith, here, push_size label (length least))));
    own = λ k lt. by_place least x k lt
        (λ old. ap (λ n. slice_index more n) (before least x k old) ∙ before label (length least) (slice_index least k) (h.inside k old) ∙ h.own k old)
        (λ new. ap (λ n. slice_index more n) (last least x k new) ∙ last label (length least) x here ∙ new);
    rising = λ j k jk lt. by_place least x k lt
        (λ old. subst (λ n. n < slice_index roots k) (sym (before least x j (omega (arith, jk, old))))
        (subst (λ n. slice_index least j < n) (sym (before least x k old)) (h.rising j k jk old)))
        (λ new. subst (λ n. n < slice_index roots k) (sym (before least x j (omega (arith, jk, new))))
        (subst (λ n. slice_index least j < n) (sym (last least x k new)) (omega (arith, h.inside j (omega (arith, jk, new)), here))));
  } where
    more : List ℕ
    more = label ++ length least ∷ []

    roots : List ℕ
    roots = least ++ x ∷ []

    root_before : (j : ℕ) → j < length label → slice_index roots (slice_index more j) ≡ slice_index least (slice_index label j)
    root_before j old = ap (λ n. slice_index roots n) (before label (length least) j old) ∙ before least x (slice_index label j) (h.below j old)

    root_last : (j : ℕ) → length label ≡ j → slice_index roots (slice_index more j) ≡ j
    root_last j new = ap (λ n. slice_index roots n) (last label (length least) j new) ∙ last least x (length least) refl ∙ sym here ∙ new

  pub numbered_more : slice_index parents x < x → AreNumberedTrees parents (label ++ slice_index label (slice_index parents x) ∷ []) least
  numbered_more lower = record {
    same = λ j lt. by_place label value j lt (parent_before value j)
        (λ new. ap (λ k. slice_index more (slice_index parents k)) (sym new ∙ here) ∙ before label value (slice_index parents x) within ∙ sym (last label value j new));
    below = λ j lt. by_place label value j lt
        (λ old. subst (λ n. n < length least) (sym (before label value j old)) (h.below j old))
        (λ new. subst (λ n. n < length least) (sym (last label value j new)) (h.below (slice_index parents x) within));
    reached = λ touch linked j lt. by_place label value j lt
        (λ old. subst (λ n. Linked touch (slice_index least n) j) (sym (before label value j old)) (h.reached touch linked j old))
        (λ new. subst (λ n. Linked touch (slice_index least n) j) (sym (last label value j new))
        (subst (λ n. Linked touch (slice_index least value) n) (sym here ∙ new)
        (linked_trans touch (slice_index least value) (slice_index parents x) x (h.reached touch linked (slice_index parents x) within) (linked.up x inside_))));
    first = λ j lt. by_place label value j lt
        (λ old. subst (λ n. slice_index least n ≤ j) (sym (before label value j old)) (h.first j old))
        (λ new. subst (λ n. slice_index least n ≤ j) (sym (last label value j new)) (omega (arith, h.first (slice_index parents x) within, lower, here, new)));
    inside = λ k lt. omega (arith, h.inside k lt, push_size label value);
    own = λ k lt. before label value (slice_index least k) (h.inside k lt) ∙ h.own k lt;
    rising = h.rising;
  } where
    value : ℕ
    value = slice_index label (slice_index parents x)

    more : List ℕ
    more = label ++ value ∷ []

    within : slice_index parents x < length label
    within = omega (arith, lower, here)
