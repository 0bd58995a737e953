-- Lists with the same elements, in one order, are one list.
use Rattle.std.proofs.Common.{◌≡◌, ℕ, suc, ◌+◌, ◌<◌, Bool, true, false, List, [], ◌∷◌, get_or, All, refl, sym, ap, ◌∙◌, subst, arith, cond}
use Rattle.std.specs.Prelude.{IsPermutation, IsSorted, sum_by}
use Rattle.std.specs.List.{AllByRecursion}
use Rattle.std.specs.Cmp.{IsTotalOrder}
use Rattle.std.specs.declared.cmp.Ordering.{Ordering}
use Rattle.std.specs.declared.cmp.Ordering.TheVariants.{Less, Equal, Greater}
use Rattle.std.specs.Ordering.{is_lt, is_eq, ordering_reverse}
use Rattle.std.proofs.lemmas.Cmp.{tied_itself}
use Rattle.std.proofs.lemmas.List.Sorted.{sorted_far, sum_by-IsPermutation}
use Rattle.std.proofs.lemmas.List.MinMax.{ranks_by}
use Rattle.std.proofs.lemmas.List.Sums.{sum_by-cons}

next : (k : ℕ) → suc k + 1 ≡ suc (k + 1)
next k = omega arith

-- of each element to each element, one by one
each_of : {X : Type 0} (P : X → Type 0) (xs : List X) → All P xs → AllByRecursion P xs
each_of P [] all = tt
each_of P (x ∷ xs) all = (all 0 x (omega arith), each_of P xs (λ k d less. all (suc k) d (omega (arith, less))))

module _ {X : Type 0} (R : X → X → Ordering) (total : IsTotalOrder R) where
  -- none behind an element comes before it
  Rises : List X → Type 0
  Rises [] = Unit {0}
  Rises (x ∷ xs) = AllByRecursion (λ y. is_lt (R y x) ≡ false) xs × Rises xs

  rises : (xs : List X) → IsSorted R xs → Rises xs
  unfolding Rises
  rises [] sorted = tt
  rises (x ∷ xs) sorted = (
    each_of (λ y. is_lt (R y x) ≡ false) xs (λ k d less. sorted_far (λ y z. is_lt (R y z)) (ranks_by total (λ y. y)) (x ∷ xs) sorted 0 (suc k) d (omega arith) (omega (arith, less))),
    rises xs (λ k d low high. subst (λ n. is_lt (R (get_or (x ∷ xs) n d) (get_or xs k d)) ≡ false) (next k) (sorted (suc k) d (omega arith) (omega (arith, high)))),
  )

  -- how many rank as this one does
  tied : X → X → ℕ
  tied z y = cond (is_eq (R z y)) 1 0

  count_tied : X → List X → ℕ
  count_tied z [] = 0
  count_tied z (y ∷ ys) = tied z y + count_tied z ys

  counts : (z : X) (xs : List X) → sum_by (tied z) xs ≡ count_tied z xs
  unfolding count_tied
  counts z [] = refl
  counts z (y ∷ ys) = sum_by-cons (tied z) y ys ∙ ap (λ n. tied z y + n) (counts z ys)

  -- what ranks as one of a list comes no earlier than what none of the list comes before
  not_before_tied : (x y z : X) (o : Ordering) → R x z ≡ o → is_eq o ≡ true → is_lt (R z y) ≡ false → is_lt (R x y) ≡ false
  not_before_tied x y z Equal is tie low = subst (λ r. is_lt r ≡ false) (sym (total.congr x z y is)) low
  not_before_tied x y z Less is tie low = cc
  not_before_tied x y z Greater is tie low = cc

  one_of : (x y z : X) (zs : List X) (t : Bool) → is_eq (R x z) ≡ t → is_lt (R z y) ≡ false → (0 < count_tied x zs → is_lt (R x y) ≡ false) → 0 < cond t 1 0 + count_tied x zs → is_lt (R x y) ≡ false
  one_of x y z zs true is low later some = not_before_tied x y z (R x z) refl is low
  one_of x y z zs false is low later some = later (omega (arith, some))

  not_before : (x y : X) (zs : List X) → AllByRecursion (λ z. is_lt (R z y) ≡ false) zs → 0 < count_tied x zs → is_lt (R x y) ≡ false
  unfolding tied count_tied
  not_before x y [] low some = absurd (omega (arith, some))
  not_before x y (z ∷ zs) low some = one_of x y z zs (is_eq (R x z)) refl low.0 (not_before x y zs low.1) some

  itself : (x : X) → tied x x ≡ 1
  unfolding tied
  itself x = ap (λ r. cond (is_eq r) 1 0) (tied_itself total x)

  not_behind : (x : X) (zs : List X) → AllByRecursion (λ z. is_lt (R z x) ≡ false) zs → AllByRecursion (λ z. is_lt (R z x) ≡ false) (x ∷ zs)
  not_behind x zs low = (ap is_lt (tied_itself total x), low)

  neither : (r : Ordering) → is_lt r ≡ false → is_lt (ordering_reverse r) ≡ false → r ≡ Equal
  neither Less a b = cc
  neither Equal a b = refl
  neither Greater a b = cc

  -- the first elements of both rank alike
  firsts : (x y : X) (xs ys : List X) → Rises (x ∷ xs) → Rises (y ∷ ys) → ((z : X) → count_tied z (x ∷ xs) ≡ count_tied z (y ∷ ys)) → R x y ≡ Equal
  unfolding Rises count_tied
  firsts x y xs ys up rising same =
      let here = not_before x y (y ∷ ys) (not_behind y ys rising.0) (omega (arith, same x, itself x)) in
      let there = not_before y x (x ∷ xs) (not_behind x xs up.0) (omega (arith, same y, itself y)) in
      neither (R x y) here (subst (λ r. is_lt r ≡ false) (total.antisymm y x) there)

  same_lists_of : (In : X → Type 0) → ((a b : X) → In a → In b → R a b ≡ Equal → a ≡ b) → (xs ys : List X) → Rises xs → Rises ys → AllByRecursion In xs → AllByRecursion In ys → ((z : X) → count_tied z xs ≡ count_tied z ys) → xs ≡ ys
  unfolding Rises count_tied
  same_lists_of In one [] [] up rising in_xs in_ys same = refl
  same_lists_of In one [] (y ∷ ys) up rising in_xs in_ys same = absurd (omega (arith, same y, itself y))
  same_lists_of In one (x ∷ xs) [] up rising in_xs in_ys same = absurd (omega (arith, same x, itself x))
  same_lists_of In one (x ∷ xs) (y ∷ ys) up rising in_xs in_ys same =
      let first = one x y in_xs.0 in_ys.0 (firsts x y xs ys up rising same) in
      let rest = same_lists_of In one xs ys up.1 rising.1 in_xs.1 in_ys.1 (λ z. let both = same z in let alike : tied z x ≡ tied z y = ap (λ w. tied z w) first in omega (arith, both, alike)) in
      λ i. first i ∷ rest i

  -- Two orders of one list are the same, where elements that rank alike are the same.
  pub one_order : (In : X → Type 0) → ((a b : X) → In a → In b → R a b ≡ Equal → a ≡ b) → (list xs ys : List X) → IsPermutation list xs → IsPermutation list ys → IsSorted R xs → IsSorted R ys → All In xs → All In ys → xs ≡ ys
  one_order In one list xs ys moved shuffled up rising in_xs in_ys =
      same_lists_of In one xs ys (rises xs up) (rises ys rising) (each_of In xs in_xs) (each_of In ys in_ys)
      (λ z. sym (counts z xs) ∙ sum_by-IsPermutation (tied z) list xs moved ∙ sym (sum_by-IsPermutation (tied z) list ys shuffled) ∙ counts z ys)
