-- Literals of a list, as a set and by their places.
use Rattle.std.proofs.Common.{◌≡◌, ℕ, ◌<◌, ◌≤◌, inl, inr, ℤ, pos, true, false, List, [], ◌∷◌, ◌++◌, length, take, sym, ◌∙◌, subst, arith}
use Rattle.std.specs.Ordering.{int_eq}
use Rattle.std.proofs.lemmas.Bool.{cases_lt}
use Rattle.std.proofs.lemmas.List.{get_or-take, length-take-le, take_all, get_or_append_left, get_or_push, length_push, get_or_default}
use Rattle.std.proofs.lemmas.List.Folds.{Any-from_list_any, list_any_at}
use Rattle.clause_base.specs.Literals.{is_in, lit_at}
use Rattle.clause_base.proofs.LiteralLemmas.{by_test, no_both, same_lit, same_test}
use Rattle.search_trail.specs.Trails.{start_at}

-- where a literal of a list stands
pub record IsAt (lits : List ℤ) (l : ℤ) : Type 0 where
  pub place : ℕ
  pub inside : place < length lits
  pub here : lit_at lits place ≡ l

pub in_from : (xs : List ℤ) (l : ℤ) (p : ℕ) → p < length xs → lit_at xs p ≡ l → is_in xs l ≡ true
in_from xs l p lt at = list_any_at (λ (m : ℤ). int_eq m l) xs p (pos 0) lt (same_test (lit_at xs p) l at)

pub in_at : (xs : List ℤ) (l : ℤ) → is_in xs l ≡ true → IsAt xs l
in_at xs l is =
    let (k, m, lt, at, same) = Any-from_list_any (λ (m : ℤ). int_eq m l) xs is in
    record { place = k; inside = lt; here = get_or_default xs k (pos 0) m lt ∙ at ∙ same_lit m l same }

pub not_at : (xs : List ℤ) (l : ℤ) → is_in xs l ≡ false → (p : ℕ) → p < length xs → lit_at xs p ≡ l → ⊥
not_at xs l none p lt at = no_both (in_from xs l p lt at) none

pub not_in : (xs : List ℤ) (l : ℤ) → ((p : ℕ) → p < length xs → lit_at xs p ≡ l → ⊥) → is_in xs l ≡ false
not_in xs l none = by_test (is_in xs l)
    (λ is. let at = in_at xs l is in absurd (none at.place at.inside at.here))
    (λ is. is)

-- a literal of the front of a list, and its place there
pub record IsBefore (lits : List ℤ) (size : ℕ) (l : ℤ) : Type 0 where
  pub place : ℕ
  pub low : place < size
  pub inside : place < length lits
  pub here : lit_at lits place ≡ l

pub take_at : (xs : List ℤ) (n : ℕ) (l : ℤ) → is_in (take n xs) l ≡ true → IsBefore xs n l
take_at xs n l is = elim (cases_lt n (length xs)) [
  | inl less ↦
      let at = in_at (take n xs) l is in
      let low : at.place < n = omega (arith, at.inside, length-take-le n xs (omega (arith, less))) in
      record { place = at.place; low = low; inside = omega (arith, low, less); here = sym (get_or-take n xs at.place (pos 0) low) ∙ at.here }
  | inr more ↦
      let at = in_at xs l (subst (λ ys. is_in ys l ≡ true) (take_all n xs more) is) in
      record { place = at.place; low = omega (arith, at.inside, more); inside = at.inside; here = at.here }
]

inside_taken : (xs : List ℤ) (n p : ℕ) → p < n → p < length xs → p < length (take n xs)
inside_taken xs n p low lt = elim (cases_lt n (length xs)) [
  | inl less ↦ omega (arith, low, length-take-le n xs (omega (arith, less)))
  | inr more ↦ subst (λ ys. p < length ys) (sym (take_all n xs more)) lt
]

pub at_take : (xs : List ℤ) (n : ℕ) (l : ℤ) (p : ℕ) → p < n → p < length xs → lit_at xs p ≡ l → is_in (take n xs) l ≡ true
at_take xs n l p low lt at = in_from (take n xs) l p (inside_taken xs n p low lt) (get_or-take n xs p (pos 0) low ∙ at)

pub not_before : (xs : List ℤ) (n : ℕ) (l : ℤ) → ((p : ℕ) → p < n → p < length xs → lit_at xs p ≡ l → ⊥) → is_in (take n xs) l ≡ false
not_before xs n l none = by_test (is_in (take n xs) l)
    (λ is. let at = take_at xs n l is in absurd (none at.place at.low at.inside at.here))
    (λ is. is)

pub in_taken : (xs : List ℤ) (n : ℕ) (l : ℤ) → is_in (take n xs) l ≡ true → is_in xs l ≡ true
in_taken xs n l is = let at = take_at xs n l is in in_from xs l at.place at.inside at.here

pub in_further : (xs : List ℤ) (n m : ℕ) (l : ℤ) → n ≤ m → is_in (take n xs) l ≡ true → is_in (take m xs) l ≡ true
in_further xs n m l le is = let at = take_at xs n l is in at_take xs m l at.place (omega (arith, at.low, le)) at.inside at.here

-- ---- one literal more

pub lit_before : (xs : List ℤ) (x : ℤ) (p : ℕ) → p < length xs → lit_at (xs ++ x ∷ []) p ≡ lit_at xs p
lit_before xs x p lt = get_or_append_left xs (x ∷ []) (pos 0) p lt

pub lit_new : (xs : List ℤ) (x : ℤ) (p : ℕ) → length xs ≡ p → lit_at (xs ++ x ∷ []) p ≡ x
lit_new xs x p at = get_or_push xs x (pos 0) p at

pub by_push : {A P : Type 0} (xs : List A) (x : A) (p : ℕ) → p < length (xs ++ x ∷ []) → (p < length xs → P) → (length xs ≡ p → P) → P
by_push xs x p lt old new = elim (cases_lt p (length xs)) [
  | inl less ↦ old less
  | inr more ↦ new (omega (arith, more, lt, length_push xs x))
]

pub in_pushed : (xs : List ℤ) (x l : ℤ) → is_in xs l ≡ true → is_in (xs ++ x ∷ []) l ≡ true
in_pushed xs x l is = let at = in_at xs l is in in_from (xs ++ x ∷ []) l at.place (omega (arith, at.inside, length_push xs x)) (lit_before xs x at.place at.inside ∙ at.here)

-- ---- one place more

pub start_before : (xs : List ℕ) (x k : ℕ) → k < length xs → start_at (xs ++ x ∷ []) k ≡ start_at xs k
start_before xs x k lt = get_or_append_left xs (x ∷ []) 0 k lt

pub start_new : (xs : List ℕ) (x k : ℕ) → length xs ≡ k → start_at (xs ++ x ∷ []) k ≡ x
start_new xs x k is = get_or_push xs x 0 k is
