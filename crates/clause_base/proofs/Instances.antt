-- How small instances of the definitions are shown, and refused.
use Rattle.std.proofs.Common.{◌≡◌, ◌≢◌, inl, inr, ◌⊎◌, ℕ, zero, suc, ◌<◌, ◌≤◌, ℤ, ◌<ℤ◌, neg_ℤ, nat_abs, nat_le, Bool, true, false, not, List, [], ◌∷◌, length, get_or, slice_index_or, sym, ◌∙◌, subst, arith}
use Rattle.std.specs.List.{All, AllByRecursion, Contains, list_all, list_any}
use Rattle.std.specs.Ordering.{int_cmp}
use Rattle.std.specs.declared.cmp.Ordering.TheVariants.{Less}
use Rattle.std.proofs.lemmas.Cmp.{int_ranked}
use Rattle.std.proofs.lemmas.Bool.Decides.{nat_tests}
use Rattle.std.proofs.lemmas.List.Elements.{All-contains}
use Rattle.std.proofs.lemmas.List.Folds.{list_any-from_Any}
use Rattle.std.proofs.lemmas.List.Sums.{AllPass-from_list_all}
use Rattle.clause_base.specs.Literals.{is_in, IsRising}
use Rattle.clause_base.specs.Solving.{IsTrueUnder}
use Rattle.clause_base.specs.Formulas.{IsClauseWithin}
use Rattle.clause_base.specs.Novelty.{IsApart, HaveSame}
use Rattle.clause_base.specs.Teaching.{AllButNegated, IsConsistent, IsPropagated}
use Rattle.clause_base.proofs.LiteralLemmas.{by_test, no_both, in_contains, lacks}

-- one by one
pub all : {X : Type 0} (P : X → Type 0) (xs : List X) → AllByRecursion P xs → All P xs
all P [] each k d lt = absurd (omega (arith, lt))
all P (x ∷ xs) each zero d lt = each.0
all P (x ∷ xs) each (suc k) d lt = all P xs each.1 k d (omega (arith, lt))

abbrev pub Ascends : List ℤ → Type 0
Ascends [] = Unit {0}
Ascends (x ∷ xs) = AllByRecursion (λ y. int_cmp x y ≡ Less) xs × Ascends xs

pub rising_by : (xs : List ℤ) → Ascends xs → IsRising xs
rising_by xs up = record { rising = at xs up } where
  at : (xs : List ℤ) → Ascends xs → (j k : ℕ) (d : ℤ) → j < k → k < length xs → slice_index_or xs j d <ℤ slice_index_or xs k d
  at [] up j k d jk lt = absurd (omega (arith, lt))
  at (x ∷ xs) up j zero d jk lt = absurd (omega (arith, jk))
  at (x ∷ xs) up zero (suc k) d jk lt = int_ranked x (get_or xs k d) Less (sym (all (λ y. int_cmp x y ≡ Less) xs up.0 k d (omega (arith, lt))))
  at (x ∷ xs) up (suc j) (suc k) d jk lt = at xs up.1 j k d (omega (arith, jk)) (omega (arith, lt))

pub same_by : (a b : List ℤ) → list_all (is_in b) a ≡ true → list_all (is_in a) b ≡ true → HaveSame a b
same_by a b there back = record {
  there = λ k d lt. in_contains b (get_or a k d) (AllPass-from_list_all (is_in b) a there k d lt);
  back = λ k d lt. in_contains a (get_or b k d) (AllPass-from_list_all (is_in a) b back k d lt);
}

pub within_by : (vars : ℕ) (clause : List ℤ) → list_all (λ l. nat_le (nat_abs l) vars) clause ≡ true → IsClauseWithin vars clause
within_by vars clause within k d lt = at (nat_abs (get_or clause k d)) (AllPass-from_list_all (λ l. nat_le (nat_abs l) vars) clause within k d lt) where
  at : (n : ℕ) → nat_le n vars ≡ true → n ≤ vars
  at n is = grind (arith, nat_tests, is)

pub not_true : (holds : ℤ → Bool) (clause : List ℤ) → list_any holds clause ≡ false → IsTrueUnder holds clause → ⊥
not_true holds clause none any = no_both (list_any-from_Any holds clause any) none

pub apart_by : (clause : List ℤ) → list_all (λ l. not (is_in clause (neg_ℤ l))) clause ≡ true → IsApart clause
apart_by clause none = record { apart = λ l has back. lacks clause (neg_ℤ l) (off (is_in clause (neg_ℤ l)) (All-contains (λ l. not (is_in clause (neg_ℤ l)) ≡ true) clause l (AllPass-from_list_all (λ l. not (is_in clause (neg_ℤ l))) clause none) has)) back } where
  off : (b : Bool) → not b ≡ true → b ≡ false
  off true is = cc
  off false is = cc

module _ (set : ℤ → Bool) (clause : List ℤ) where
  -- a clause with two literals that are not negated in the set
  pub propagated_by_two : (a b : ℤ) → Contains clause a → Contains clause b → a ≢ b → set (neg_ℤ a) ≡ false → set (neg_ℤ b) ≡ false → IsPropagated set clause
  propagated_by_two a b first second other no_a no_b = record {
    standing = λ all. no_both (All-contains (λ m. set (neg_ℤ m) ≡ true) clause a all first) no_a;
    unit = λ lit there rest unset. elim (All-contains (λ m. (m ≡ lit) ⊎ (set (neg_ℤ m) ≡ true)) clause a rest first) [
      | inl same ↦ elim (All-contains (λ m. (m ≡ lit) ⊎ (set (neg_ℤ m) ≡ true)) clause b rest second) [
        | inl again ↦ absurd (other (same ∙ sym again))
        | inr is ↦ no_both is no_b
      ]
      | inr is ↦ no_both is no_a
    ];
  }

  -- a clause with a literal in the set
  pub propagated_by_one : IsConsistent set → (a : ℤ) → Contains clause a → set a ≡ true → IsPropagated set clause
  propagated_by_one consistent a has is = record {
    standing = λ all. no_both (All-contains (λ m. set (neg_ℤ m) ≡ true) clause a all has) (consistent.apart a is);
    unit = λ lit there rest unset. elim (All-contains (λ m. (m ≡ lit) ⊎ (set (neg_ℤ m) ≡ true)) clause a rest has) [
      | inl same ↦ subst (λ z. set z ≡ true) same is
      | inr is_not ↦ no_both is_not (consistent.apart a is)
    ];
  }

  -- a literal that unit propagation adds
  pub forced : (l : ℤ) → IsPropagated set clause → Contains clause l → AllButNegated set clause l → set l ≡ true
  forced l kept has rest = by_test (set (neg_ℤ l))
      (λ no. absurd (kept.standing (λ k d lt. elim (rest k d lt) [ inl same ↦ subst (λ z. set (neg_ℤ z) ≡ true) (sym same) no | inr is ↦ is ])))
      (λ unset. kept.unit l has rest unset)
