-- The terminals of transistors, pair by pair.
use Rattle.std.proofs.Common.{◌≡◌, ◌≢◌, ℕ, ◌+◌, ◌<◌, ◌≤◌, ◌⊎◌, Bool, true, false, ◌&&◌, ◌||◌, ◌==◌, List, [], ◌∷◌, length, take, refl, sym, ap, ◌∙◌, subst, arith, inl, inr, slice_get, slice_set, get_or, Some}
use Rattle.std.proofs.lemmas.Bool.{cases_order, eqb-true, eq-eqb, or_left}
use Rattle.std.proofs.lemmas.List.{length-set, take_more, take_all}
use Rattle.std.proofs.lemmas.List.Folds.{list_any-append}
use Rattle.std.proofs.lemmas.Option.{slice_get-get_or}
use Rattle.switch_net.specs.declared.NetId.{NetId}
use Rattle.mask_region.proofs.Within.{or_cases}
use Rattle.net_trace.proofs.Filling.{get_set}
use Rattle.net_trace.proofs.Lists.{not_both_ways}
use Rattle.device_extract.specs.declared.terminals.Ends.{Ends}
use Rattle.device_extract.specs.declared.terminals.Ends.TheVariants.{Bare, One, Two, Crowded}
use Rattle.device_extract.specs.Contacts.{has_contact, HasOne, HasTwo, HasThree, AreEnds, AreEndsOf}

-- ---- one net more

more_old : (a b : Bool) → a ≡ true → (a || b) ≡ true
more_old a b h = ap (λ c. c || b) h

more_new : (a b : Bool) → b ≡ true → (a || b) ≡ true
more_new true b h = refl
more_new false b h = h

module _ (has : ℕ → Bool) (net : ℕ) where
  old : (n : ℕ) → has n ≡ true → (has n || (net == n)) ≡ true
  old n h = more_old (has n) (net == n) h

  new : (n : ℕ) → net ≡ n → (has n || (net == n)) ≡ true
  new n h = more_new (has n) (net == n) (eq-eqb net n h)

  cases : (n : ℕ) → (has n || (net == n)) ≡ true → (has n ≡ true) ⊎ (n ≡ net)
  cases n h = elim (or_cases (has n) (net == n) h) [ inl is ↦ inl is | inr is ↦ inr (sym (eqb-true net n is)) ]

  pub ends_first : ((n : ℕ) → has n ≡ true → ⊥) → HasOne (λ n. has n || (net == n)) net
  ends_first none = record { first = new net refl; only = λ n h. elim (cases n h) [ inl is ↦ absurd (none n is) | inr is ↦ is ] }

  pub ends_same : (a : ℕ) → a ≡ net → HasOne has a → HasOne (λ n. has n || (net == n)) a
  ends_same a is h = record { first = old a h.first; only = λ n g. elim (cases n g) [ inl has_n ↦ h.only n has_n | inr is_n ↦ is_n ∙ sym is ] }

  pub ends_after : (a : ℕ) → a < net → HasOne has a → HasTwo (λ n. has n || (net == n)) a net
  ends_after a lt h = record { first = old a h.first; second = new net refl; rising = lt; only = λ n g. elim (cases n g) [ inl has_n ↦ inl (h.only n has_n) | inr is_n ↦ inr is_n ] }

  pub ends_before : (a : ℕ) → net < a → HasOne has a → HasTwo (λ n. has n || (net == n)) net a
  ends_before a lt h = record { first = new net refl; second = old a h.first; rising = lt; only = λ n g. elim (cases n g) [ inl has_n ↦ inr (h.only n has_n) | inr is_n ↦ inl is_n ] }

  pub ends_known : (a b : ℕ) → (a ≡ net) ⊎ (b ≡ net) → HasTwo has a b → HasTwo (λ n. has n || (net == n)) a b
  ends_known a b is h = record {
    first = old a h.first;
    second = old b h.second;
    rising = h.rising;
    only = λ n g. elim (cases n g) [
      | inl has_n ↦ h.only n has_n
      | inr is_n ↦ elim is [ inl first ↦ inl (is_n ∙ sym first) | inr second ↦ inr (is_n ∙ sym second) ]
    ];
  }

  pub ends_third : (a b : ℕ) → a ≢ net → b ≢ net → HasTwo has a b → HasThree (λ n. has n || (net == n))
  ends_third a b not_a not_b h = elim (cases_order net a) [
    | inl same ↦ absurd (not_a (sym same))
    | inr (inl less) ↦ record { a = net; b = a; c = b; first = new net refl; second = old a h.first; third = old b h.second; rising = less; rising_on = h.rising }
    | inr (inr more) ↦ elim (cases_order net b) [
      | inl same ↦ absurd (not_b (sym same))
      | inr (inl less) ↦ record { a = a; b = net; c = b; first = old a h.first; second = new net refl; third = old b h.second; rising = more; rising_on = less }
      | inr (inr above) ↦ record { a = a; b = b; c = net; first = old a h.first; second = old b h.second; third = new net refl; rising = h.rising; rising_on = above }
    ]
  ]

  pub ends_other : (a b : ℕ) → ((a == net) || (b == net)) ≡ false → HasTwo has a b → HasThree (λ n. has n || (net == n))
  ends_other a b none h = ends_third a b (λ e. not_both_ways ((a == net) || (b == net)) (or_left (a == net) (b == net) (eq-eqb a net e)) none) (λ e. not_both_ways ((a == net) || (b == net)) (more_new (a == net) (b == net) (eq-eqb b net e)) none) h

  pub ends_either : (a b : ℕ) → ((a == net) || (b == net)) ≡ true → HasTwo has a b → HasTwo (λ n. has n || (net == n)) a b
  ends_either a b one h = ends_known a b (elim (or_cases (a == net) (b == net) one) [ inl e ↦ inl (eqb-true a net e) | inr e ↦ inr (eqb-true b net e) ]) h

  pub ends_crowded : HasThree has → HasThree (λ n. has n || (net == n))
  ends_crowded h = record { a = h.a; b = h.b; c = h.c; first = old h.a h.first; second = old h.b h.second; third = old h.c h.third; rising = h.rising; rising_on = h.rising_on }

-- ---- ends of equal tests

pub ends_moved : (p q : ℕ → Bool) (e : Ends) → ((n : ℕ) → p n ≡ q n) → AreEnds p e → AreEnds q e
ends_moved p q Bare same h = λ n is. h n (same n ∙ is)
ends_moved p q (One a) same h = record { first = sym (same a.0) ∙ h.first; only = λ n is. h.only n (same n ∙ is) }
ends_moved p q (Two a b) same h = record { first = sym (same a.0) ∙ h.first; second = sym (same b.0) ∙ h.second; rising = h.rising; only = λ n is. h.only n (same n ∙ is) }
ends_moved p q Crowded same h = record { a = h.a; b = h.b; c = h.c; first = sym (same h.a) ∙ h.first; second = sym (same h.b) ∙ h.second; third = sym (same h.c) ∙ h.third; rising = h.rising; rising_on = h.rising_on }

-- ---- pair by pair

-- Each transistor has the ends that the first n pairs give it.
abbrev pub AreEndsTo : List (ℕ × NetId) → ℕ → ℕ → List Ends → Type 0
AreEndsTo contacts count n ends = AreEndsOf (take n contacts) count ends

pub ends_none : (contacts : List (ℕ × NetId)) (count : ℕ) (ends : List Ends) → length ends ≡ count → ((t : ℕ) (e : Ends) → slice_get ends t ≡ Some e → e ≡ Bare) → AreEndsOf (take 0 contacts) count ends
ends_none contacts count ends each bare = record {
  each = each;
  at = λ t e at_t. subst (AreEnds (has_contact (take 0 contacts) t)) (sym (bare t e at_t)) (none contacts t);
} where
  none : (cs : List (ℕ × NetId)) (t n : ℕ) → has_contact (take 0 cs) t n ≡ true → ⊥
  none [] t n h = cc
  none (c ∷ cs) t n h = cc

has_more : (contacts : List (ℕ × NetId)) (k : ℕ) (d : ℕ × NetId) (t n : ℕ) → k < length contacts → has_contact (take (k + 1) contacts) t n ≡ (has_contact (take k contacts) t n || (((get_or contacts k d).0 == t) && ((get_or contacts k d).1.0 == n)))
has_more contacts k d t n lt =
    ap (λ (l : List (ℕ × NetId)). has_contact l t n) (take_more contacts k d lt) ∙ list_any-append (λ (c : ℕ × NetId). (c.0 == t) && (c.1.0 == n)) (take k contacts) (get_or contacts k d ∷ [])
    ∙ ap (λ b. has_contact (take k contacts) t n || b) (or_false (((get_or contacts k d).0 == t) && ((get_or contacts k d).1.0 == n)))
  where
    or_false : (b : Bool) → (b || false) ≡ b
    or_false true = refl
    or_false false = refl

pub ends_more : (contacts : List (ℕ × NetId)) (count k : ℕ) (d : ℕ × NetId) (ends : List Ends) (f e : Ends) → k < length contacts → (get_or contacts k d).0 < count → AreEndsOf (take k contacts) count ends
    → ((has : ℕ → Bool) → AreEnds has (get_or ends (get_or contacts k d).0 f) → AreEnds (λ n. has n || ((get_or contacts k d).1.0 == n)) e) → AreEndsOf (take (k + 1) contacts) count (slice_set ends (get_or contacts k d).0 e)
ends_more contacts count k d ends f e lt inside h step = record {
  each = length-set ends (get_or contacts k d).0 e ∙ h.each;
  at = λ t r at_t. elim (get_set ends (get_or contacts k d).0 t e r at_t) [
    | inl here ↦ subst (AreEnds (has_contact (take (k + 1) contacts) t)) (sym here.1) (now t here.0)
    | inr other ↦ ends_moved (has_contact (take k contacts) t) (has_contact (take (k + 1) contacts) t) r (λ n. sym (kept t n other.0)) (h.at t r other.1)
  ];
} where
  now : (t : ℕ) → t ≡ (get_or contacts k d).0 → AreEnds (has_contact (take (k + 1) contacts) t) e
  now t same =
      let at_c : slice_get ends (get_or contacts k d).0 ≡ Some (get_or ends (get_or contacts k d).0 f) = slice_get-get_or ends (get_or contacts k d).0 f (omega (arith, inside, h.each)) in
      let before : AreEnds (has_contact (take k contacts) t) (get_or ends (get_or contacts k d).0 f) = h.at t (get_or ends (get_or contacts k d).0 f) (ap (λ m. slice_get ends m) same ∙ at_c) in
      ends_moved (λ n. has_contact (take k contacts) t n || ((get_or contacts k d).1.0 == n)) (has_contact (take (k + 1) contacts) t) e
      (λ n. ap (λ b. has_contact (take k contacts) t n || (b && ((get_or contacts k d).1.0 == n))) (sym (eq-eqb (get_or contacts k d).0 t (sym same))) ∙ sym (has_more contacts k d t n lt))
      (step (has_contact (take k contacts) t) before)

  not_equal : (a b : ℕ) → b ≢ a → (a == b) ≡ false
  not_equal a b not = by_test (a == b) refl
    where
      by_test : (c : Bool) → (a == b) ≡ c → (a == b) ≡ false
      by_test true is = absurd (not (sym (eqb-true a b is)))
      by_test false is = is

  kept : (t n : ℕ) → t ≢ (get_or contacts k d).0 → has_contact (take (k + 1) contacts) t n ≡ has_contact (take k contacts) t n
  kept t n not = has_more contacts k d t n lt ∙ ap (λ b. has_contact (take k contacts) t n || (b && ((get_or contacts k d).1.0 == n))) (not_equal (get_or contacts k d).0 t not) ∙ or_none (has_contact (take k contacts) t n)
    where
      or_none : (b : Bool) → (b || false) ≡ b
      or_none true = refl
      or_none false = refl

pub ends_all : (contacts : List (ℕ × NetId)) (count n : ℕ) (ends : List Ends) → length contacts ≤ n → AreEndsOf (take n contacts) count ends → AreEndsOf contacts count ends
ends_all contacts count n ends le h = subst (λ (l : List (ℕ × NetId)). AreEndsOf l count ends) (take_all n contacts le) h
