-- The walk down a trail: how it begins, and how it passes one place.
use Rattle.std.proofs.Common.{◌≡◌, ℕ, ◌+◌, ◌-◌, ◌<◌, ◌≤◌, inl, inr, ℤ, neg_ℤ, Bool, true, false, ◌||◌, List, [], ◌∷◌, ◌++◌, length, take, set, reverse, get_or, refl, sym, ap, ◌∙◌, subst, arith}
use Rattle.std.specs.List.{All, Contains}
use Rattle.std.proofs.Math.IntN.{neg_ℤ-neg_ℤ}
use Rattle.std.specs.Ordering.{int_eq}
use Rattle.std.proofs.lemmas.Int.{ints}
use Rattle.std.proofs.lemmas.Bool.{cases_lt}
use Rattle.std.proofs.lemmas.Bool.Decides.{nat_tests}
use Rattle.std.proofs.lemmas.List.{length_push, reverse-append, get_or_default, get_or-set_same}
use Rattle.clause_base.specs.Literals.{is_in, lit_at}
use Rattle.clause_base.specs.Plain.{IsOnce}
use Rattle.clause_base.proofs.LiteralLemmas.{by_test, no_both, same_lit, in_contains}
use Rattle.refutation_check.specs.Following.{IsNumber, numbered, IsUnit, joined, Runs}
use Rattle.refutation_check.proofs.Soundness.{by_either}
use Rattle.refutation_check.proofs.Leading.{leads_runs}
use Rattle.search_trail.specs.Trails.{Search, start_at, IsReason, AreStarts}
use Rattle.search_trail.specs.Walking.{is_seen, MayStay, IsWalk}
use Rattle.search_trail.proofs.Members.{in_from, in_at, take_at, by_push, start_before, start_new}

-- the places of a clause's negations below this one are marked
abbrev pub AreMarked : List ℤ → List Bool → ℕ → List ℤ → Type 0
AreMarked lits seen end clause = All (λ l. (q : ℕ) → q < end → q < length lits → lit_at lits q ≡ neg_ℤ l → is_seen seen q ≡ true) clause

pub decision_stays : (starts : List ℕ) (size : ℕ) (seen : List Bool) (place : ℕ) → AreStarts starts size → Contains starts place → MayStay starts seen place
decision_stays starts size seen place are has = let (k, lt, at) = has in record {
  level = omega (arith, lt);
  alone = λ low q more less. absurd (none k lt (get_or_default starts k 0 place lt ∙ at) q more less);
} where
  none : (k : ℕ) → k < length starts → start_at starts k ≡ place → (q : ℕ) → start_at starts (length starts - 1) ≤ q → q < place → ⊥
  none k lt at q more less = elim (cases_lt k (length starts - 1)) [
    | inl below ↦ omega (arith, are.rising k (length starts - 1) below (omega (arith, lt)), at, more, less)
    | inr last ↦ let same : k ≡ length starts - 1 = omega (arith, last, lt) in omega (arith, ap (λ n. start_at starts n) same, at, more, less)
  ]

pub below_stays : (starts : List ℕ) (seen : List Bool) (place : ℕ) → 0 < length starts → place < start_at starts (length starts - 1) → MayStay starts seen place
below_stays starts seen place some low = record { level = some; alone = λ high q more less. absurd (omega (arith, low, high)) }

module _ (s : Search) (once : IsOnce s.lits) where
  in_unplaced : (fails : ℤ → Bool) (seen : List Bool) (place : ℕ) (clause : List ℤ) (m : ℤ) → ((p : ℕ) → p < place → is_seen seen p ≡ true → fails (neg_ℤ (lit_at s.lits p)) ≡ true)
      → ((q : ℕ) → q < place → q < length s.lits → lit_at s.lits q ≡ neg_ℤ m → is_seen seen q ≡ true) → (q : ℕ) → q < place → q < length s.lits → lit_at s.lits q ≡ neg_ℤ m → fails m ≡ true
  in_unplaced fails seen place clause m low marked q less inside at =
      subst (λ z. fails z ≡ true) (ap (λ z. neg_ℤ z) at ∙ neg_ℤ-neg_ℤ m) (low q less (marked q less inside at))

  pub begins : (seen : List Bool) (conflict : ℕ) → length seen ≡ length s.lits → IsNumber s.clauses conflict → All (λ l. is_in s.lits (neg_ℤ l) ≡ true) (numbered s.clauses conflict)
      → AreMarked s.lits seen (length s.lits) (numbered s.clauses conflict) → IsWalk s seen (length s.lits) [] (conflict ∷ [])
  begins seen conflict size known failed marked = record {
    size = size;
    run = λ fails on low kept. (
      known,
      λ k d lt.
          let at = in_at s.lits (neg_ℤ (get_or (numbered s.clauses conflict) k d)) (failed k d lt) in
          in_unplaced fails seen (length s.lits) (numbered s.clauses conflict) (get_or (numbered s.clauses conflict) k d) low (marked k d lt) at.place at.inside at.inside at.here,
    );
    down = λ k lt. absurd (omega (arith, lt));
    inside = λ k lt. absurd (omega (arith, lt));
    falling = λ j k jk lt. absurd (omega (arith, lt));
    level = λ some. absurd (omega (arith, some));
    others = λ k some lt. absurd (omega (arith, lt));
    alone = λ some. absurd (omega (arith, some));
  }

  module _ (seen : List Bool) (place : ℕ) (kept hints : List ℕ) (w : IsWalk s seen (place + 1) kept hints) where
    pub skips : is_seen seen place ≡ false → IsWalk s seen place kept hints
    skips unseen = record {
      size = w.size;
      run = λ fails on low held. w.run fails on (λ p less is. elim (cases_lt p place) [
        | inl below ↦ low p below is
        | inr here ↦ no_both (subst (λ n. is_seen seen n ≡ true) (same p less here) is) unseen
      ]) held;
      down = λ k lt. omega (arith, w.down k lt);
      inside = w.inside;
      falling = w.falling;
      level = w.level;
      others = w.others;
      alone = λ some q more less. w.alone some q more (omega (arith, less));
    } where
      same : (p : ℕ) → p < place + 1 → place ≤ p → p ≡ place
      same p less here = omega (arith, less, here)

    pub keeps : place < length s.lits → is_seen seen place ≡ true → MayStay s.starts seen place → IsWalk s seen place (kept ++ place ∷ []) hints
    keeps inside is_here stays = record {
      size = w.size;
      run = λ fails on low held. w.run fails on (λ p less is. elim (cases_lt p place) [
        | inl below ↦ low p below is
        | inr here ↦ subst (λ n. fails (neg_ℤ (lit_at s.lits n)) ≡ true) (start_new kept place (length kept) refl ∙ omega (arith, less, here)) (held (length kept) (omega (arith, length_push kept place)))
      ]) (λ k lt. subst (λ n. fails (neg_ℤ (lit_at s.lits n)) ≡ true) (start_before kept place k lt) (held k (omega (arith, lt, length_push kept place))));
      down = λ k lt. by_push kept place k lt (λ old. omega (arith, start_before kept place k old, w.down k old)) (λ new. omega (arith, start_new kept place k new));
      inside = λ k lt. by_push kept place k lt (λ old. omega (arith, start_before kept place k old, w.inside k old)) (λ new. omega (arith, start_new kept place k new, inside));
      falling = λ j k jk lt. by_push kept place k lt
          (λ old. omega (arith, start_before kept place k old, start_before kept place j (omega (arith, jk, old)), w.falling j k jk old))
          (λ new. omega (arith, start_new kept place k new, start_before kept place j (omega (arith, jk, new)), w.down j (omega (arith, jk, new))));
      level = λ some. stays.level;
      others = λ k some lt. by_push kept place k lt
          (λ old. omega (arith, start_before kept place k old, w.others k some old))
          (λ new. elim (cases_lt place (start_at s.starts (length s.starts - 1))) [
            | inl low ↦ omega (arith, start_new kept place k new, low)
            | inr high ↦ no_both is_here (w.alone (omega (arith, some, new)) place high (omega arith))
          ]);
      alone = λ some q more less. stays.alone (omega (arith, more, less)) q more less;
    }

    pub resolves : (after : List Bool) (number : ℕ) → place < length s.lits → is_seen seen place ≡ true → IsReason s.clauses (take place s.lits) (lit_at s.lits place) number
        → length after ≡ length seen → ((q : ℕ) → is_seen seen q ≡ true → is_seen after q ≡ true) → AreMarked s.lits after place (numbered s.clauses number)
        → IsWalk s after place kept (hints ++ number ∷ [])
    resolves after number inside is_here reason size grown marked = record {
      size = size ∙ w.size;
      run = λ fails on low held. subst (λ hs. Runs s.clauses fails hs) (sym (reverse-append hints (number ∷ [])))
          (leads_runs s.clauses fails (number ∷ []) (joined (lit_at s.lits place) fails) (reverse hints) (reason.known, lit_at s.lits place, unit fails on low, refl)
          (w.run (joined (lit_at s.lits place) fails) (on_joined fails on) (low_joined fails low) (λ k lt. joined_more fails (neg_ℤ (lit_at s.lits (start_at kept k))) (held k lt))));
      down = λ k lt. omega (arith, w.down k lt);
      inside = w.inside;
      falling = w.falling;
      level = w.level;
      others = w.others;
      alone = λ some q more less. no_both is_here (w.alone some place (omega (arith, more, less)) (omega arith));
    } where
      joined_more : (fails : ℤ → Bool) (l : ℤ) → fails l ≡ true → joined (lit_at s.lits place) fails l ≡ true
      joined_more fails l is = either_right (int_eq l (neg_ℤ (lit_at s.lits place))) (fails l) is where
        either_right : (a b : Bool) → b ≡ true → (a || b) ≡ true
        either_right true b is = refl
        either_right false b is = is

      on_joined : (fails : ℤ → Bool) → ((l : ℤ) → fails l ≡ true → is_in s.lits (neg_ℤ l) ≡ true) → (l : ℤ) → joined (lit_at s.lits place) fails l ≡ true → is_in s.lits (neg_ℤ l) ≡ true
      on_joined fails on l is = by_either (int_eq l (neg_ℤ (lit_at s.lits place))) (fails l) is
          (λ same. in_from s.lits (neg_ℤ l) place inside (sym (ap (λ z. neg_ℤ z) (same_lit l (neg_ℤ (lit_at s.lits place)) same) ∙ neg_ℤ-neg_ℤ (lit_at s.lits place))))
          (λ old. on l old)

      low_joined : (fails : ℤ → Bool) → ((p : ℕ) → p < place → is_seen after p ≡ true → fails (neg_ℤ (lit_at s.lits p)) ≡ true)
          → (p : ℕ) → p < place + 1 → is_seen seen p ≡ true → joined (lit_at s.lits place) fails (neg_ℤ (lit_at s.lits p)) ≡ true
      low_joined fails low p less is = elim (cases_lt p place) [
        | inl below ↦ joined_more fails (neg_ℤ (lit_at s.lits p)) (low p below (grown p is))
        | inr here ↦ subst (λ n. joined (lit_at s.lits place) fails (neg_ℤ (lit_at s.lits n)) ≡ true) (omega (arith, less, here)) (own fails)
      ]
        where
          own : (fails : ℤ → Bool) → joined (lit_at s.lits place) fails (neg_ℤ (lit_at s.lits place)) ≡ true
          own fails = either_left (int_eq (neg_ℤ (lit_at s.lits place)) (neg_ℤ (lit_at s.lits place))) (fails (neg_ℤ (lit_at s.lits place))) (self_test (neg_ℤ (lit_at s.lits place))) where
            either_left : (a b : Bool) → a ≡ true → (a || b) ≡ true
            either_left true b is = refl
            either_left false b is = let both : ⊥ = cc in absurd both

            self_test : (z : ℤ) → int_eq z z ≡ true
            self_test z = grind (arith, ints, nat_tests)

      unit : (fails : ℤ → Bool) → ((l : ℤ) → fails l ≡ true → is_in s.lits (neg_ℤ l) ≡ true) → ((p : ℕ) → p < place → is_seen after p ≡ true → fails (neg_ℤ (lit_at s.lits p)) ≡ true)
          → IsUnit fails (numbered s.clauses number) (lit_at s.lits place)
      unit fails on low = record {
        there = reason.there;
        left = by_test (fails (lit_at s.lits place))
            (λ is. absurd (once.apart.apart (lit_at s.lits place) (in_contains s.lits (lit_at s.lits place) (in_from s.lits (lit_at s.lits place) place inside refl))
            (in_contains s.lits (neg_ℤ (lit_at s.lits place)) (on (lit_at s.lits place) is))))
            (λ is. is);
        others = λ k d lt. elim (reason.others k d lt) [
          | inl same ↦ inl same
          | inr before ↦
              let at = take_at s.lits place (neg_ℤ (get_or (numbered s.clauses number) k d)) before in
              inr (in_unplaced fails after place (numbered s.clauses number) (get_or (numbered s.clauses number) k d) low (marked k d lt) at.place at.low at.inside at.here)
        ];
      }

-- ---- as the code makes it

pub marked_here : (lits : List ℤ) (seen : List Bool) (lit negated : ℤ) (place q : ℕ) → IsOnce lits → place < length lits → lit_at lits place ≡ negated → negated ≡ neg_ℤ lit → length seen ≡ length lits
    → q < length lits → lit_at lits q ≡ neg_ℤ lit → is_seen (set seen place true) q ≡ true
marked_here lits seen lit negated place q once inside here turned size lt at =
    subst (λ n. is_seen (set seen place true) n ≡ true) (once.once place q inside lt (here ∙ turned ∙ sym at)) (get_or-set_same seen place true false (omega (arith, inside, size)))

pub marked_never : {P : Type 0} (lits : List ℤ) (lit negated : ℤ) (place end q : ℕ) → IsOnce lits → place < length lits → lit_at lits place ≡ negated → negated ≡ neg_ℤ lit → end ≤ place
    → q < end → q < length lits → lit_at lits q ≡ neg_ℤ lit → P
marked_never lits lit negated place end q once inside here turned high less lt at =
    let same = once.once place q inside lt (here ∙ turned ∙ sym at) in absurd (omega (arith, same, high, less))

pub seen_read : (seen : List Bool) (place : ℕ) (is_here : Bool) → place < length seen → is_here ≡ get_or seen place is_here → is_here ≡ true → is_seen seen place ≡ true
seen_read seen place is_here lt at is = get_or_default seen place false is_here lt ∙ sym at ∙ is
