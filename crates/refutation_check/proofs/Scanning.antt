-- How much of a clause is outside the set, literal by literal.
use Rattle.std.proofs.Common.{◌≡◌, ◌≢◌, ℕ, ◌+◌, ◌<◌, ◌≤◌, ℤ, Bool, true, false, ◌⊎◌, inl, inr, List, [], ◌∷◌, ◌++◌, length, take, get_or, refl, sym, ap, ◌∙◌, subst}
use Rattle.std.specs.List.{All, Contains}
use Rattle.std.proofs.lemmas.List.{take_all, take_more}
use Rattle.std.proofs.lemmas.List.Elements.{All-contains, All-contains_itself, All-push, All-take, Contains-append_left, Contains-push}
use Rattle.clause_base.proofs.LiteralLemmas.{no_both}
use Rattle.refutation_check.specs.Following.{HasFailed, IsUnit}
use Rattle.refutation_check.specs.Left.{IsLeft}
use Rattle.refutation_check.specs.declared.hints.Left.{Left}
use Rattle.refutation_check.specs.declared.hints.Left.TheVariants.{Nothing, Sole, Several}
use Rattle.refutation_check.proofs.Leading.{failed_not_unit, unit_not_failed}

-- what is known of the literals so far
abbrev pub IsSoFar : (ℤ → Bool) → List ℤ → Left → Type 0
IsSoFar fails clause Nothing = HasFailed fails clause
IsSoFar fails clause (Sole lit) = IsUnit fails clause lit
IsSoFar fails clause Several = ⊥

contains_taken : (xs : List ℤ) (i : ℕ) (y : ℤ) → Contains (take i xs) y → Contains xs y
contains_taken xs i y has = All-contains (Contains xs) (take i xs) y (All-take (Contains xs) i xs (All-contains_itself xs)) has

module _ (fails : ℤ → Bool) where
  passed : (xs : List ℤ) (x : ℤ) (left : Left) → fails x ≡ true → IsSoFar fails xs left → IsSoFar fails (xs ++ x ∷ []) left
  passed xs x Nothing is far = All-push (λ l. fails l ≡ true) xs x far is
  passed xs x (Sole lit) is far = record {
    there = Contains-append_left xs (x ∷ []) lit far.there;
    left = far.left;
    others = All-push (λ m. (m ≡ lit) ⊎ (fails m ≡ true)) xs x far.others (inr is);
  }
  passed xs x Several is far = far

  weaker : (xs : List ℤ) (lit : ℤ) → HasFailed fails xs → All (λ m. (m ≡ lit) ⊎ (fails m ≡ true)) xs
  weaker xs lit failed k d lt = inr (failed k d lt)

  joins : (xs : List ℤ) (x : ℤ) (left : Left) → fails x ≡ false → (left ≡ Nothing) ⊎ (left ≡ Sole x) → IsSoFar fails xs left → IsSoFar fails (xs ++ x ∷ []) (Sole x)
  joins xs x left is (inl none) far = record {
    there = Contains-push xs x;
    left = is;
    others = All-push (λ m. (m ≡ x) ⊎ (fails m ≡ true)) xs x (weaker xs x (subst (λ l. IsSoFar fails xs l) none far)) (inl refl);
  }
  joins xs x left is (inr sole) far = let unit : IsUnit fails xs x = subst (λ l. IsSoFar fails xs l) sole far in record {
    there = Contains-push xs x;
    left = is;
    others = All-push (λ m. (m ≡ x) ⊎ (fails m ≡ true)) xs x unit.others (inl refl);
  }

  pushed : (xs : List ℤ) (i : ℕ) (x : ℤ) (left : Left) → i < length xs → x ≡ get_or xs i x → IsSoFar fails (take i xs ++ x ∷ []) left → IsSoFar fails (take (i + 1) xs) left
  pushed xs i x left lt at far = subst (λ ls. IsSoFar fails ls left) (ap (λ y. take i xs ++ y ∷ []) at ∙ sym (take_more xs i x lt)) far

  pub passes : (xs : List ℤ) (i : ℕ) (x : ℤ) (left : Left) → i < length xs → x ≡ get_or xs i x → fails x ≡ true → IsSoFar fails (take i xs) left → IsSoFar fails (take (i + 1) xs) left
  passes xs i x left lt at is far = pushed xs i x left lt at (passed (take i xs) x left is far)

  pub takes : (xs : List ℤ) (i : ℕ) (x : ℤ) (left : Left) → i < length xs → x ≡ get_or xs i x → fails x ≡ false → (left ≡ Nothing) ⊎ (left ≡ Sole x) → IsSoFar fails (take i xs) left
      → IsSoFar fails (take (i + 1) xs) (Sole x)
  takes xs i x left lt at is one far = pushed xs i x (Sole x) lt at (joins (take i xs) x left is one far)

  only : (xs : List ℤ) (a b : ℤ) → Contains xs a → fails a ≡ false → IsUnit fails xs b → a ≡ b
  only xs a b has is unit = elim (All-contains (λ m. (m ≡ b) ⊎ (fails m ≡ true)) xs a unit.others has) [
    | inl same ↦ same
    | inr failed ↦ no_both failed is
  ]

  pub several : (xs : List ℤ) (i : ℕ) (x : ℤ) (left : Left) → i < length xs → x ≡ get_or xs i x → fails x ≡ false → left ≢ Nothing → left ≢ Sole x → IsSoFar fails (take i xs) left → IsLeft fails xs Several
  several xs i x Nothing lt at is some other far = absurd (some refl)
  several xs i x (Sole lit) lt at is some other far =
      let here : Contains xs x = (i, lt, sym at) in (
        λ failed. no_both (All-contains (λ l. fails l ≡ true) xs x failed here) is,
        λ m unit. other (ap Sole (only xs lit m (contains_taken xs i lit far.there) far.left unit ∙ sym (only xs x m here is unit))),
      )
  several xs i x Several lt at is some other far = absurd far

  pub ends : (xs : List ℤ) (i : ℕ) (left : Left) → length xs ≤ i → IsSoFar fails (take i xs) left → IsLeft fails xs left
  ends xs i Nothing all far = subst (λ ls. HasFailed fails ls) (take_all i xs all) far
  ends xs i (Sole lit) all far = subst (λ ls. IsUnit fails ls lit) (take_all i xs all) far
  ends xs i Several all far = absurd far

  pub not_sole : (clause : List ℤ) (left : Left) → IsLeft fails clause left → ((x : ℤ) → left ≡ Sole x → ⊥) → (lit : ℤ) → IsUnit fails clause lit → ⊥
  not_sole clause Nothing is none lit unit = failed_not_unit fails clause is lit unit
  not_sole clause (Sole x) is none lit unit = none x refl
  not_sole clause Several is none lit unit = is.1 lit unit

  pub not_nothing : (clause : List ℤ) (left : Left) → IsLeft fails clause left → (left ≡ Nothing → ⊥) → HasFailed fails clause → ⊥
  not_nothing clause Nothing is none failed = none refl
  not_nothing clause (Sole x) is none failed = unit_not_failed fails clause x is failed
  not_nothing clause Several is none failed = is.0 failed
