-- Rising lists of literals: how they are made, and how a literal is looked for in one.
use Rattle.std.proofs.Common.{◌≡◌, ℕ, zero, suc, ◌+◌, ◌<◌, ◌≤◌, ℤ, ◌<ℤ◌, neg_ℤ, Bool, true, false, IsTrue, List, [], ◌∷◌, length, get_or, slice_index_or, Result, Ok, Err, is_ok, ◌↔◌, IsTrue, inl, inr, refl, sym, ap, ◌∙◌, subst, arith}
use Rattle.std.specs.List.{AllByRecursion, Contains, dedup}
use Rattle.std.specs.List.Sorted.{IsStrictlySortedBy, IsSorted, IsPermutation, IsBinarySearchResult, IsSearchInRange, IsSortedBy}
use Rattle.std.specs.Ordering.{int_cmp, int_eq, is_lt}
use Rattle.std.specs.declared.cmp.Ordering.TheVariants.{Less, Equal, Greater}
use Rattle.std.proofs.lemmas.Cmp.{int_cmp_total, int_eq_equiv, int_ranked}
use Rattle.std.proofs.lemmas.Int.{ints}
use Rattle.std.proofs.lemmas.Bool.{cases_lt}
use Rattle.std.proofs.lemmas.Bool.Decides.{nat_tests}
use Rattle.std.proofs.lemmas.List.{get_or_default}
use Rattle.std.proofs.lemmas.List.Elements.{Contains-get_or, All-contains}
use Rattle.std.proofs.lemmas.List.Sorted.{Contains-permutation, searchable_from_sorted, IsPermutation-sym}
use Rattle.std.proofs.lemmas.List.Kept.{IsStrictlySortedBy-dedup, Contains-dedup, Contains-from_dedup}
use Rattle.clause_base.specs.Literals.{IsRising}
use Rattle.clause_base.specs.Novelty.{HaveSame, IsApart}
use Rattle.clause_base.proofs.LiteralLemmas.{same_lit}

-- ---- sorted, and each once

all_at : (P : ℤ → Type 0) (xs : List ℤ) (k : ℕ) (d : ℤ) → AllByRecursion P xs → k < length xs → P (get_or xs k d)
all_at P [] k d all lt = absurd (omega (arith, lt))
all_at P (x ∷ xs) zero d all lt = all.0
all_at P (x ∷ xs) (suc k) d all lt = all_at P xs k d all.1 (omega (arith, lt))

rising_at : (xs : List ℤ) → IsStrictlySortedBy int_cmp xs → (j k : ℕ) (d : ℤ) → j < k → k < length xs → get_or xs j d <ℤ get_or xs k d
unfolding IsStrictlySortedBy
rising_at [] sorted j k d jk lt = absurd (omega (arith, lt))
rising_at (x ∷ xs) sorted j zero d jk lt = absurd (omega (arith, jk))
rising_at (x ∷ xs) sorted zero (suc k) d jk lt = int_ranked x (get_or xs k d) Less (sym (all_at (λ y. int_cmp x y ≡ Less) xs k d sorted.0 (omega (arith, lt))))
rising_at (x ∷ xs) sorted (suc j) (suc k) d jk lt = rising_at xs sorted.1 j k d (omega (arith, jk)) (omega (arith, lt))

pub rising_from : (sorted kept : List ℤ) → IsSorted int_cmp sorted → kept ≡ dedup int_eq sorted → IsRising kept
rising_from sorted kept up is = subst IsRising (sym is) (record { rising = rising_at (dedup int_eq sorted) (IsStrictlySortedBy-dedup int_cmp_total (λ x y. refl) sorted up) })

pub same_from : (clause lits sorted kept : List ℤ) → lits ≡ clause → IsPermutation lits sorted → kept ≡ dedup int_eq sorted → HaveSame clause kept
same_from clause lits sorted kept copy moved is = record {
  there = λ k d lt. subst (λ xs. Contains xs (get_or clause k d)) (sym is)
      (Contains-dedup int_eq_equiv same_lit sorted (get_or clause k d)
      (Contains-permutation lits sorted (get_or clause k d) moved (subst (λ xs. Contains xs (get_or clause k d)) (sym copy) (Contains-get_or clause k d lt))));
  back = λ k d lt. subst (λ xs. Contains xs (get_or kept k d)) copy
      (Contains-permutation sorted lits (get_or kept k d) (IsPermutation-sym lits sorted moved)
      (Contains-from_dedup int_eq sorted (get_or kept k d) (subst (λ xs. Contains xs (get_or kept k d)) is (Contains-get_or kept k d lt))));
}

-- ---- looked for

rises : (xs : List ℤ) → IsRising xs → IsSortedBy (λ a b. is_lt (int_cmp a b)) xs
rises xs up k d low lt = not_below (get_or xs k d) (get_or xs (k + 1) d) (up.rising k (k + 1) d (omega arith) lt) where
  not_below : (a b : ℤ) → a <ℤ b → is_lt (int_cmp b a) ≡ false
  not_below a b ab = grind (arith, ints, nat_tests, ab)

pub not_self : {P : Type 0} (x : ℤ) → x <ℤ x → P
not_self x less = let none : ⊥ = grind (arith, ints, less) in absurd none

pub no_place : (xs : List ℤ) (x : ℤ) (result : Result ℕ ℕ) → IsRising xs → IsBinarySearchResult (λ y. int_cmp y x) xs result → is_ok result ≡ false → Contains xs x → ⊥
no_place xs x (Ok i) up found none has = let both : ⊥ = cc in both
no_place xs x (Err i) up found none has =
    let sides = found (searchable_from_sorted int_cmp_total (λ z. z) xs x (rises xs up)) in
    let (k, lt, is) = has in
    elim (cases_lt k i) [
      | inl before ↦ not_self x (subst (λ y. y <ℤ x) is (int_ranked (get_or xs k x) x Less (sym (sides.0 k x (omega arith) before))))
      | inr behind ↦ not_self x (subst (λ y. x <ℤ y) is (int_ranked (get_or xs k x) x Greater (sym (sides.1 k x behind lt))))
    ]

pub a_place : (xs : List ℤ) (x : ℤ) (result : Result ℕ ℕ) → IsSearchInRange result (length xs) → IsBinarySearchResult (λ y. int_cmp y x) xs result → is_ok result ≡ true → Contains xs x
a_place xs x (Ok i) inside found ok = (i, inside, int_ranked (get_or xs i x) x Equal (sym (found x)))
a_place xs x (Err i) inside found ok = let both : ⊥ = cc in absurd both

-- ---- no literal beside its negation

-- the same literals are apart or not
pub apart_same : (a b : List ℤ) → HaveSame a b → IsApart a → IsApart b
apart_same a b same apart = record {
  apart = λ l has negated. apart.apart l (All-contains (Contains a) b l same.back has) (All-contains (Contains a) b (neg_ℤ l) same.back negated);
}

pub same_turned : (a b : List ℤ) → HaveSame a b → HaveSame b a
same_turned a b same = record { there = same.back; back = same.there }

pub apart_at : (xs : List ℤ) (i : ℕ) → length xs ≤ i → ((k : ℕ) (d : ℤ) → k < i → Contains xs (neg_ℤ (slice_index_or xs k d)) → ⊥) → IsApart xs
apart_at xs i all none = record {
  apart = λ l has negated. let (k, lt, is) = has in none k l (omega (arith, all, lt)) (subst (λ m. Contains xs (neg_ℤ m)) (sym is) negated);
}

pub beside : (xs : List ℤ) (i : ℕ) (l m : ℤ) → i < length xs → l ≡ get_or xs i l → m ≡ neg_ℤ l → Contains xs m → IsApart xs → ⊥
beside xs i l m lt at is has apart = apart.apart l (i, lt, sym at) (subst (Contains xs) is has)

same : (k i : ℕ) → k < i + 1 → i ≤ k → k ≡ i
same k i lt more = omega (arith, lt, more)

pub apart_more : (xs : List ℤ) (i : ℕ) (l m : ℤ) → i < length xs → l ≡ get_or xs i l → m ≡ neg_ℤ l → (Contains xs m → ⊥) → ((k : ℕ) (d : ℤ) → k < i → Contains xs (neg_ℤ (slice_index_or xs k d)) → ⊥)
    → (k : ℕ) (d : ℤ) → k < i + 1 → Contains xs (neg_ℤ (slice_index_or xs k d)) → ⊥
apart_more xs i l m inside at is none before k d lt has = elim (cases_lt k i) [
  | inl less ↦ before k d less has
  | inr more ↦ none (subst (Contains xs) (ap (λ j. neg_ℤ (get_or xs j d)) (same k i lt more) ∙ ap (λ z. neg_ℤ z) (get_or_default xs i d l inside ∙ sym at) ∙ sym is) has)
]

-- an answer that tells what holds
pub is_true : {P : Type 0} → P → IsTrue true ↔ P
is_true p = (λ yes. p, λ p. refl)

pub is_false : {P : Type 0} → (P → ⊥) → IsTrue false ↔ P
is_false none = (λ no. let both : ⊥ = cc in absurd both, λ p. absurd (none p))

pub told : {P : Type 0} {b : Bool} → IsTrue b ↔ P → b ≡ true → P
told both is = both.0 is

pub not_told : {P : Type 0} {b : Bool} → IsTrue b ↔ P → b ≡ false → P → ⊥
not_told both is p = let yes = both.1 p in cc
