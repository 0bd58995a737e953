-- The lists of literals: a clause more, and a clause that moves to another list.
use Rattle.std.proofs.Common.{◌≡◌, ◌≢◌, ℕ, ◌+◌, ◌-◌, ◌<◌, ◌≤◌, ◌⊎◌, inl, inr, ℤ, Option, Some, None, Result, Ok, Err, OnOk, OnErr, IfSome, List, [], ◌∷◌, ◌++◌, length, set, get_or, sym, ap, ◌∙◌, subst, arith}
use Rattle.std.specs.List.{Contains}
use Rattle.std.proofs.lemmas.Bool.{cases_lt, cases_eq}
use Rattle.std.proofs.lemmas.List.{length_push, get_or_append_left, get_or_push, get_or_past, get_or_default, get_or-set_same, get_or-set_other}
use Rattle.std.proofs.lemmas.List.Elements.{Contains-get_or, Contains-append_left, Contains-push_cases}
use Rattle.clause_base.specs.Literals.{code_of}
use Rattle.clause_base.proofs.LiteralLemmas.{by_lit, one_code}
use Rattle.clause_watches.specs.Listing.{pair_of, list_of, AreListed, IsOther}

pub code_inside : (lists : List (List ℕ)) (l : ℤ) (index : ℕ) → index < length (list_of lists l) → code_of l < length lists
code_inside lists l index lt = elim (cases_lt (code_of l) (length lists)) [
  | inl less ↦ less
  | inr more ↦ absurd (omega (arith, lt, ap length (get_or_past lists (code_of l) [] more)))
]

-- a place behind a list with one more
past_push : {A : Type 0} (xs : List A) (y : A) (k : ℕ) → length xs ≤ k → (length xs ≡ k → ⊥) → length (xs ++ y ∷ []) ≤ k
past_push xs y k more other = let size = length_push xs y in grind (arith, size, more, other)

none_some : {P : Type 0} (p : ℤ × ℤ) → None ≡ Some p → P
none_some p same = let both : ⊥ = cc in absurd both

pub empty_more : (xs : List (List ℕ)) (y : List ℕ) → y ≡ [] → ((k : ℕ) → get_or xs k [] ≡ []) → (k : ℕ) → get_or (xs ++ y ∷ []) k [] ≡ []
empty_more xs y is empty k = elim (cases_lt k (length xs)) [
  | inl less ↦ get_or_append_left xs (y ∷ []) [] k less ∙ empty k
  | inr more ↦ elim (cases_eq (length xs) k) [
    | inl same ↦ get_or_push xs y [] k same ∙ is
    | inr other ↦ get_or_past (xs ++ y ∷ []) k [] (past_push xs y k more other)
  ]
]

-- one list is changed
module _ (lists : List (List ℕ)) (lit : ℤ) (c : ℕ) (old new : List ℕ) (is : c ≡ code_of lit) (lt : code_of lit < length lists) (was : old ≡ get_or lists c old) where
  inside : c < length lists
  inside = subst (λ n. n < length lists) (sym is) lt

  old_is : list_of lists lit ≡ old
  old_is = ap (λ k. get_or lists k []) (sym is) ∙ get_or_default lists c [] old inside ∙ sym was

  here : list_of (set lists c new) lit ≡ new
  here = ap (λ k. get_or (set lists c new) k []) (sym is) ∙ get_or-set_same lists c new [] inside

  there : (l : ℤ) → l ≢ lit → list_of (set lists c new) l ≡ list_of lists l
  there l other = get_or-set_other lists c (code_of l) new [] (λ same. other (one_code l lit (same ∙ is)))

  pub leave_stay : (index : ℕ) → ((n : ℕ) → Contains old n → (n ≡ get_or old index 0) ⊎ Contains new n) → (n : ℕ) → Contains (list_of lists lit) n
      → (n ≡ get_or (list_of lists lit) index 0) ⊎ Contains (list_of (set lists c new) lit) n
  leave_stay index stay n has = elim (stay n (subst (λ xs. Contains xs n) old_is has)) [
    | inl same ↦ inl (same ∙ ap (λ xs. get_or xs index 0) (sym old_is))
    | inr kept ↦ inr (subst (λ xs. Contains xs n) (sym here) kept)
  ]

  pub leave_none : ((n : ℕ) → Contains new n → Contains old n) → (n : ℕ) → Contains (list_of (set lists c new) lit) n → Contains (list_of lists lit) n
  leave_none none n has = subst (λ xs. Contains xs n) (sym old_is) (none n (subst (λ xs. Contains xs n) here has))

  pub join_kept : {A E : Type 0} (r : Result A E) (number : ℕ) → OnOk r (new ≡ old ++ number ∷ []) → OnErr r (new ≡ old) → (l : ℤ) (n : ℕ) → Contains (list_of lists l) n → Contains (list_of (set lists c new) l) n
  join_kept r number ok err l n has = by_lit l lit
      (λ same. subst (λ z. Contains (list_of (set lists c new) z) n) (sym same) (subst (λ xs. Contains xs n) (sym here)
      (more r ok err (subst (λ xs. Contains xs n) old_is (subst (λ z. Contains (list_of lists z) n) same has)))))
      (λ other. subst (λ xs. Contains xs n) (sym (there l other)) has)
    where
      more : {A E : Type 0} (r : Result A E) → OnOk r (new ≡ old ++ number ∷ []) → OnErr r (new ≡ old) → Contains old n → Contains new n
      more (Ok x) ok err has = subst (λ xs. Contains xs n) (sym ok) (Contains-append_left old (number ∷ []) n has)
      more (Err e) ok err has = subst (λ xs. Contains xs n) (sym err) has

  pub join_only : {A E : Type 0} (r : Result A E) (number : ℕ) → OnOk r (new ≡ old ++ number ∷ []) → OnErr r (new ≡ old) → (l : ℤ) (n : ℕ) → Contains (list_of (set lists c new) l) n → Contains (list_of lists l) n ⊎ (n ≡ number)
  join_only r number ok err l n has = by_lit l lit
      (λ same. elim (less r ok err (subst (λ xs. Contains xs n) here (subst (λ z. Contains (list_of (set lists c new) z) n) same has))) [
        | inl before ↦ inl (subst (λ z. Contains (list_of lists z) n) (sym same) (subst (λ xs. Contains xs n) (sym old_is) before))
        | inr new ↦ inr new
      ])
      (λ other. inl (subst (λ xs. Contains xs n) (there l other) has))
    where
      less : {A E : Type 0} (r : Result A E) → OnOk r (new ≡ old ++ number ∷ []) → OnErr r (new ≡ old) → Contains new n → Contains old n ⊎ (n ≡ number)
      less (Ok x) ok err has = elim (Contains-push_cases old number n (subst (λ xs. Contains xs n) ok has)) [ inl before ↦ inl before | inr same ↦ inr (sym same) ]
      less (Err e) ok err has = inl (subst (λ xs. Contains xs n) err has)

-- ---- what the lists keep

abbrev pub HaveGrown : List (List ℕ) → List (List ℕ) → Type 0
HaveGrown lists new = (l : ℤ) (n : ℕ) → Contains (list_of lists l) n → Contains (list_of new l) n

abbrev pub HaveOnly : List (List ℕ) → List (List ℕ) → ℕ → Type 0
HaveOnly lists new number = (l : ℤ) (n : ℕ) → Contains (list_of new l) n → Contains (list_of lists l) n ⊎ (n ≡ number)

pub only_twice : (a b c : List (List ℕ)) (number : ℕ) → HaveOnly a b number → HaveOnly b c number → HaveOnly a c number
only_twice a b c number ab bc l n has = elim (bc l n has) [ inl before ↦ ab l n before | inr same ↦ inr same ]

module _ (pairs : List (Option (ℤ × ℤ))) (lists new : List (List ℕ)) (are : AreListed pairs lists) where
  some_more : (number : ℕ) → 0 < number → HaveOnly lists new number → (l : ℤ) (n : ℕ) → Contains (list_of new l) n → 0 < n
  some_more number some only l n has = elim (only l n has) [
    | inl before ↦ are.some l n before
    | inr same ↦ omega (arith, same, some)
  ]

  pub joined : (number : ℕ) → 0 < number → HaveGrown lists new → HaveOnly lists new number → AreListed pairs new
  joined number some grown only = record {
    first = λ n a b some_ is. grown a n (are.first n a b some_ is);
    second = λ n a b some_ is. grown b n (are.second n a b some_ is);
    some = some_more number some only;
  }

  pub added : (number : ℕ) (pair : Option (ℤ × ℤ)) (after : List (Option (ℤ × ℤ))) → number ≡ length pairs + 1 → after ≡ pairs ++ pair ∷ [] → HaveGrown lists new → HaveOnly lists new number
      → IfSome pair (λ lits. Contains (list_of new lits.0) number) → IfSome pair (λ lits. Contains (list_of new lits.1) number) → AreListed after new
  added number pair after is made grown only first second = subst (λ ps. AreListed ps new) (sym made) (record {
    first = λ n a b some_ at. by_place n a b some_ at (λ old. grown a n (are.first n a b some_ old)) (λ same. subst (λ m. Contains (list_of new a) m) (last n some_ same) (first_of pair first a b (sym (get_or_push pairs pair None (n - 1) same) ∙ at)));
    second = λ n a b some_ at. by_place n a b some_ at (λ old. grown b n (are.second n a b some_ old)) (λ same. subst (λ m. Contains (list_of new b) m) (last n some_ same) (second_of pair second a b (sym (get_or_push pairs pair None (n - 1) same) ∙ at)));
    some = some_more number (omega (arith, is)) only;
  }) where
    last : (n : ℕ) → 0 < n → length pairs ≡ n - 1 → number ≡ n
    last n some same = omega (arith, some, same, is)

    by_place : {P : Type 0} (n : ℕ) (a b : ℤ) → 0 < n → pair_of (pairs ++ pair ∷ []) n ≡ Some (a, b) → (pair_of pairs n ≡ Some (a, b) → P) → (length pairs ≡ n - 1 → P) → P
    by_place n a b some at old new_ = elim (cases_lt (n - 1) (length pairs)) [
      | inl less ↦ old (sym (get_or_append_left pairs (pair ∷ []) None (n - 1) less) ∙ at)
      | inr more ↦ elim (cases_eq (length pairs) (n - 1)) [
        | inl same ↦ new_ same
        | inr other ↦ none_some (a, b) (sym (get_or_past (pairs ++ pair ∷ []) (n - 1) None (past_push pairs pair (n - 1) more other)) ∙ at)
      ]
    ]

    first_of : (p : Option (ℤ × ℤ)) → IfSome p (λ lits. Contains (list_of new lits.0) number) → (a b : ℤ) → p ≡ Some (a, b) → Contains (list_of new a) number
    first_of p has a b is = subst (λ (q : Option (ℤ × ℤ)). IfSome q (λ lits. Contains (list_of new lits.0) number)) is has

    second_of : (p : Option (ℤ × ℤ)) → IfSome p (λ lits. Contains (list_of new lits.1) number) → (a b : ℤ) → p ≡ Some (a, b) → Contains (list_of new b) number
    second_of p has a b is = subst (λ (q : Option (ℤ × ℤ)). IfSome q (λ lits. Contains (list_of new lits.1) number)) is has

pub some_is : (p q : ℤ × ℤ) → Some p ≡ Some q → p ≡ q
some_is p q same = cc

pub number_some : (pairs : List (Option (ℤ × ℤ))) (lists : List (List ℕ)) (l : ℤ) (index : ℕ) → AreListed pairs lists → index < length (list_of lists l) → 0 < get_or (list_of lists l) index 0
number_some pairs lists l index are lt = are.some l (get_or (list_of lists l) index 0) (Contains-get_or (list_of lists l) index 0 lt)

module _ (pairs : List (Option (ℤ × ℤ))) (lists mid new : List (List ℕ)) (are : AreListed pairs lists) (gone to other : ℤ) (index number : ℕ) (at : number ≡ get_or (list_of lists gone) index 0)
    (inside : index < length (list_of lists gone)) (apart : to ≢ gone) (away : other ≢ gone) (watched : IsOther (pair_of pairs number) gone other) (grown : HaveGrown lists mid) (only : HaveOnly lists mid number)
    (same_gone : list_of mid gone ≡ list_of lists gone) (put : Contains (list_of mid to) number) (stay : (n : ℕ) → Contains (list_of mid gone) n → (n ≡ get_or (list_of mid gone) index 0) ⊎ Contains (list_of new gone) n)
    (none : (n : ℕ) → Contains (list_of new gone) n → Contains (list_of mid gone) n) (rest : (l : ℤ) → l ≢ gone → list_of new l ≡ list_of mid l) where
  some : 0 < number
  some = subst (λ n. 0 < n) (sym at) (number_some pairs lists gone index are inside)

  other_listed : Contains (list_of lists other) number
  other_listed = elim watched [ inl is ↦ are.second number gone other some is | inr is ↦ are.first number other gone some is ]

  moved_on : (l : ℤ) (n : ℕ) → l ≢ gone → Contains (list_of mid l) n → Contains (list_of new l) n
  moved_on l n apart has = subst (λ xs. Contains xs n) (sym (rest l apart)) has

  stays : (l : ℤ) (n : ℕ) → n ≢ number → Contains (list_of lists l) n → Contains (list_of new l) n
  stays l n other has = by_lit l gone
      (λ same. elim (stay n (subst (λ z. Contains (list_of mid z) n) same (grown l n has))) [
        | inl is ↦ absurd (other (is ∙ ap (λ xs. get_or xs index 0) same_gone ∙ sym at))
        | inr kept ↦ subst (λ z. Contains (list_of new z) n) (sym same) kept
      ])
      (λ apart. moved_on l n apart (grown l n has))

  known : number - 1 < length pairs
  known = elim (cases_lt (number - 1) (length pairs)) [
    | inl less ↦ less
    | inr more ↦ absurd (elim watched [ inl is ↦ none_some (gone, other) (past more is) | inr is ↦ none_some (other, gone) (past more is) ])
  ]
    where
      past : {p : ℤ × ℤ} → length pairs ≤ number - 1 → pair_of pairs number ≡ Some p → None ≡ Some p
      past more is = sym (get_or_past pairs (number - 1) None more) ∙ is

  pub shifted : AreListed (set pairs (number - 1) (Some (to, other))) new
  shifted = record {
    first = λ n a b some_ is. by_number n a b some_ is
        (λ same p. subst (λ z. Contains (list_of new z) n) (sym (ap (λ (q : ℤ × ℤ). q.0) p)) (subst (λ m. Contains (list_of new to) m) (sym same) (moved_on to number apart put)))
        (λ unlike old. stays a n unlike (are.first n a b some_ old));
    second = λ n a b some_ is. by_number n a b some_ is
        (λ same p. subst (λ z. Contains (list_of new z) n) (sym (ap (λ (q : ℤ × ℤ). q.1) p)) (subst (λ m. Contains (list_of new other) m) (sym same) (moved_on other number away (grown other number other_listed))))
        (λ unlike old. stays b n unlike (are.second n a b some_ old));
    some = λ l n has. by_lit l gone
        (λ same. some_mid l n (subst (λ z. Contains (list_of mid z) n) (sym same) (none n (subst (λ z. Contains (list_of new z) n) same has))))
        (λ far. some_mid l n (subst (λ xs. Contains xs n) (rest l far) has));
  } where
    some_mid : (l : ℤ) (n : ℕ) → Contains (list_of mid l) n → 0 < n
    some_mid l n has = elim (only l n has) [ inl before ↦ are.some l n before | inr same ↦ omega (arith, same, some) ]

    by_number : {P : Type 0} (n : ℕ) (a b : ℤ) → 0 < n → pair_of (set pairs (number - 1) (Some (to, other))) n ≡ Some (a, b) → (n ≡ number → ◌≡◌ {A = ℤ × ℤ} (a, b) (to, other) → P) → (n ≢ number → pair_of pairs n ≡ Some (a, b) → P) → P
    by_number n a b some_ is same_one other_one = elim (cases_eq n number) [
      | inl same ↦ same_one same (some_is (a, b) (to, other) (sym is ∙ ap (λ m. pair_of (set pairs (number - 1) (Some (to, other))) m) same ∙ get_or-set_same pairs (number - 1) (Some (to, other)) None known))
      | inr apart_ ↦ other_one apart_ (sym (get_or-set_other pairs (number - 1) (n - 1) (Some (to, other)) None (λ same. apart_ (equal n some_ same))) ∙ is)
    ]
      where
        equal : (n : ℕ) → 0 < n → n - 1 ≡ number - 1 → n ≡ number
        equal n some_ same = omega (arith, some_, same, some)

pub ok_more : {A E P Q : Type 0} (r : Result A E) → OnOk r P → (P → Q) → OnOk r Q
ok_more (Ok x) p f = f p
ok_more (Err e) p f = p
