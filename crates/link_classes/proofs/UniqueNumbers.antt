-- The classes of linked things have one numbering.
use Rattle.std.proofs.Common.{◌≡◌, ℕ, zero, suc, ◌<◌, inl, inr, Bool, List, [], ◌∷◌, length, get_or, slice_get, Option, Some, None, refl, sym, ap, ◌∙◌, subst, arith}
use Rattle.std.specs.Cmp.{IsTotalOrder}
use Rattle.std.specs.declared.cmp.Ordering.{Ordering}
use Rattle.std.specs.declared.cmp.Ordering.TheVariants.{Less, Equal, Greater}
use Rattle.std.specs.Ordering.{ordering_reverse}
use Rattle.std.proofs.lemmas.Bool.{cases_order}
use Rattle.std.proofs.lemmas.Option.{slice_get_within, slice_get-get_or}
use Rattle.link_classes.specs.Linked.{Linked}
use Rattle.link_classes.specs.Numbering.{IsLeast, AreRoots, IsNumber, IsCount}
use Rattle.link_classes.proofs.Chains.{linked_sym, linked_trans}

pub some_one : {A : Type 0} (a b : A) → Some a ≡ Some b → a ≡ b
some_one a b e = ap (λ o. elim o [ Some x ↦ x | None ↦ a ]) e

pub no_some : {A : Type 0} {P : Type 0} (a : A) → None ≡ Some a → P
no_some a e = let none : ⊥ = cc in absurd none

-- each is one of the others
abbrev pub HasAll : {A : Type 0} → List A → List A → Type 0
HasAll {A} ps qs = (k : ℕ) (r : A) → slice_get ps k ≡ Some r → (j : ℕ) × (slice_get qs j ≡ Some r)

-- up to here the lists are the same
abbrev pub AreAlike : {A : Type 0} → List A → List A → ℕ → Type 0
AreAlike ps qs k = (i : ℕ) → i < k → slice_get ps i ≡ slice_get qs i

same_lists : {A : Type 0} (ps qs : List A) → ((k : ℕ) → slice_get ps k ≡ slice_get qs k) → ps ≡ qs
same_lists [] [] same = refl
same_lists [] (q ∷ qs) same = no_some q (same 0)
same_lists (p ∷ ps) [] same = no_some p (sym (same 0))
same_lists (p ∷ ps) (q ∷ qs) same = ap (λ x. x ∷ ps) (some_one p q (same 0)) ∙ ap (λ xs. q ∷ xs) (same_lists ps qs (λ k. same (suc k)))

module _ {A : Type 0} (order : A → A → Ordering) (total : IsTotalOrder order) where
  reversed : (a b : A) → order a b ≡ Less → order b a ≡ Greater
  reversed a b less = total.antisymm b a ∙ ap (λ o. ordering_reverse o) less

  two_orders : {P : Type 0} → Less ≡ Greater → P
  two_orders e = let none : ⊥ = cc in absurd none

  not_both : {P : Type 0} (a b : A) → order a b ≡ Less → order b a ≡ Less → P
  not_both a b ab ba = two_orders (sym ba ∙ reversed a b ab)

  not_self : {P : Type 0} (a : A) → order a a ≡ Less → P
  not_self a less = not_both a a less less

  abbrev pub IsRising : List A → Type 0
  IsRising xs = (j k : ℕ) (q r : A) → j < k → slice_get xs j ≡ Some q → slice_get xs k ≡ Some r → order q r ≡ Less

  one_index : (xs : List A) → IsRising xs → (j k : ℕ) (r : A) → slice_get xs j ≡ Some r → slice_get xs k ≡ Some r → j ≡ k
  one_index xs rising j k r at_j at_k = elim (cases_order j k) [
    | inl same ↦ same
    | inr (inl less) ↦ not_self r (rising j k r r less at_j at_k)
    | inr (inr more) ↦ not_self r (rising k j r r more at_k at_j)
  ]

  -- ---- rising lists of the same things are one list

  module _ (ps qs : List A) (rising_p : IsRising ps) (rising_q : IsRising qs) (there : HasAll ps qs) (back : HasAll qs ps) where
    -- a place of the other list that comes too late: what stands in between is missing
    too_late : {P : Type 0} (k j : ℕ) (r s : A) → AreAlike ps qs k → slice_get ps k ≡ Some r → slice_get qs j ≡ Some r → k < j → slice_get qs k ≡ Some s → (i : ℕ) → slice_get ps i ≡ Some s → P
    too_late k j r s alike at_p at_q late at_k i at_i = elim (cases_order i k) [
      | inl same ↦ not_self r (subst (λ x. order x r ≡ Less) (some_one s r (sym at_i ∙ ap (λ n. slice_get ps n) same ∙ at_p)) (rising_q k j s r late at_k at_q))
      | inr (inl less) ↦ not_self s (rising_q i k s s less (sym (alike i less) ∙ at_i) at_k)
      | inr (inr more) ↦ not_both r s (rising_p k i r s more at_p at_i) (rising_q k j s r late at_k at_q)
    ]

    place_kept : (k : ℕ) (r : A) → AreAlike ps qs k → slice_get ps k ≡ Some r → (j : ℕ) → slice_get qs j ≡ Some r → slice_get qs k ≡ Some r
    place_kept k r alike at_p j at_q = elim (cases_order j k) [
      | inl same ↦ ap (λ n. slice_get qs n) (sym same) ∙ at_q
      | inr (inl less) ↦ not_self r (rising_p j k r r less (alike j less ∙ at_q) at_p)
      | inr (inr more) ↦
          let at_k : slice_get qs k ≡ Some (get_or qs k r) = slice_get-get_or qs k r (omega (arith, more, slice_get_within qs j r at_q)) in
          let found = back k (get_or qs k r) at_k in
          too_late k j r (get_or qs k r) alike at_p at_q more at_k found.0 found.1
    ]

    pub same_place : (k : ℕ) (r : A) → AreAlike ps qs k → slice_get ps k ≡ Some r → slice_get qs k ≡ Some r
    same_place k r alike at_p = let found = there k r at_p in place_kept k r alike at_p found.0 found.1

  module _ (ps qs : List A) (rising_p : IsRising ps) (rising_q : IsRising qs) (there : HasAll ps qs) (back : HasAll qs ps) where
    by_option : (k : ℕ) (o : Option A) → AreAlike ps qs k → slice_get ps k ≡ o → (u : Option A) → slice_get qs k ≡ u → slice_get ps k ≡ slice_get qs k
    by_option k (Some r) alike at_p u at_q = at_p ∙ sym (same_place ps qs rising_p rising_q there back k r alike at_p)
    by_option k None alike at_p (Some s) at_q = same_place qs ps rising_q rising_p back there k s (λ i lt. sym (alike i lt)) at_q ∙ sym at_q
    by_option k None alike at_p None at_q = at_p ∙ sym at_q

    alike : (k : ℕ) → AreAlike ps qs k
    alike zero i lt = absurd (omega (arith, lt))
    alike (suc k) i lt = elim (cases_order i k) [
      | inl same ↦ subst (λ n. slice_get ps n ≡ slice_get qs n) (sym same) (by_option k (slice_get ps k) (alike k) refl (slice_get qs k) refl)
      | inr (inl less) ↦ alike k i less
      | inr (inr more) ↦ absurd (omega (arith, lt, more))
    ]

    pub one_rising : ps ≡ qs
    one_rising = same_lists ps qs (λ k. alike (suc k) k (omega arith))

  -- ---- the least members of the classes are one list

  module _ (one : (a b : A) → order a b ≡ Equal → a ≡ b) (is_thing : A → Bool) (link : A → A → Bool) where
    least_by : (a b : A) (o : Ordering) → order a b ≡ o → IsLeast order is_thing link a → IsLeast order is_thing link b → Linked link a b → a ≡ b
    least_by a b Less is first second linked = absurd (second.least a (linked_sym link a b linked) is)
    least_by a b Equal is first second linked = one a b is
    least_by a b Greater is first second linked = absurd (first.least b linked (total.antisymm b a ∙ ap (λ o. ordering_reverse o) is))

    least_one : (a b : A) → IsLeast order is_thing link a → IsLeast order is_thing link b → Linked link a b → a ≡ b
    least_one a b first second linked = least_by a b (order a b) refl first second linked

    has_all : (ps qs : List A) → AreRoots order is_thing link ps → AreRoots order is_thing link qs → HasAll ps qs
    has_all ps qs p q k r at =
        let least = p.least k r at in
        let (j, s, at_s, linked) = q.every r least.thing in
        (j, at_s ∙ ap (λ x. Some x) (sym (least_one r s least (q.least j s at_s) linked)))

    pub roots_one : (ps qs : List A) → AreRoots order is_thing link ps → AreRoots order is_thing link qs → ps ≡ qs
    roots_one ps qs p q = one_rising ps qs p.rising q.rising (has_all ps qs p q) (has_all qs ps q p)

    -- linked things have one number
    pub number_one : (a b : A) (m n : ℕ) → IsNumber order is_thing link a m → IsNumber order is_thing link b n → Linked link a b → m ≡ n
    number_one a b m n first second linked =
        let same = roots_one first.roots second.roots first.are second.are in
        let at_first : slice_get second.roots m ≡ Some first.root = ap (λ rs. slice_get rs m) (sym same) ∙ first.at in
        let roots_linked = linked_trans link first.root a second.root (linked_sym link a first.root first.linked) (linked_trans link a b second.root linked second.linked) in
        let one_root = least_one first.root second.root (second.are.least m first.root at_first) (second.are.least n second.root second.at) roots_linked in
        one_index second.roots second.are.rising m n second.root (at_first ∙ ap (λ r. Some r) one_root) second.at

    -- things of one number are linked
    pub number_links : (a b : A) (n : ℕ) → IsNumber order is_thing link a n → IsNumber order is_thing link b n → Linked link a b
    number_links a b n first second =
        let same = roots_one first.roots second.roots first.are second.are in
        let one_root = some_one first.root second.root (sym first.at ∙ ap (λ rs. slice_get rs n) same ∙ second.at) in
        linked_trans link a second.root b (subst (λ r. Linked link a r) one_root first.linked) (linked_sym link b second.root second.linked)

    pub count_one : (m n : ℕ) → IsCount order is_thing link m → IsCount order is_thing link n → m ≡ n
    count_one m n first second = sym first.is ∙ ap (λ xs. length xs) (roots_one first.roots second.roots first.are second.are) ∙ second.is
