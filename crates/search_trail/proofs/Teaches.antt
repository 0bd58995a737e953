-- What the end of a walk gives: the clause that is learnt.
use Rattle.std.proofs.Common.{◌≡◌, ℕ, zero, suc, ◌-◌, ◌<◌, ◌≤◌, ◌⊎◌, inl, inr, ℤ, pos, neg_ℤ, Bool, true, false, List, [], ◌∷◌, length, take, reverse, get_or, sym, ap, ◌∙◌, subst, arith}
use Rattle.std.specs.Ordering.{int_eq}
use Rattle.std.proofs.Math.IntN.{neg_ℤ-neg_ℤ}
use Rattle.std.proofs.lemmas.Bool.{cases_lt}
use Rattle.std.proofs.lemmas.List.{length-map, get_or-map, get_or_default}
use Rattle.std.proofs.lemmas.List.Elements.{Contains-get_or}
use Rattle.clause_base.specs.Literals.{is_in, lit_at}
use Rattle.clause_base.specs.Teaching.{AllButNegated, IsConsistent, IsPropagated, IsClosed, Teaches}
use Rattle.clause_base.proofs.LiteralLemmas.{by_test, no_both, same_lit, in_contains, contains_in}
use Rattle.refutation_check.specs.Following.{IsNumber, numbered, IsUnit, joined, Runs, Follows}
use Rattle.refutation_check.proofs.Soundness.{by_either}
use Rattle.search_trail.specs.Trails.{Search, IsSearch, start_at, front, front_size}
use Rattle.search_trail.specs.Walking.{IsWalk, falses}
use Rattle.search_trail.specs.Learning.{below, IsLearnt, IsAsserting, IsJump, IsDoneBelow}
use Rattle.search_trail.proofs.Members.{in_from, in_at, in_taken, at_take, not_before}

-- hints lead nowhere from literals that are all negated in a closed set
module _ (set : ℤ → Bool) (earlier : List (List ℤ)) (consistent : IsConsistent set) (closed : IsClosed set earlier) where
  kept_at : (hint : ℕ) → IsNumber earlier hint → IsPropagated set (numbered earlier hint)
  kept_at hint number = closed (hint - 1) [] (omega (arith, number.some, number.most))

  implied : (fails : ℤ → Bool) (hint : ℕ) (lit : ℤ) → IsNumber earlier hint → IsUnit fails (numbered earlier hint) lit → ((l : ℤ) → fails l ≡ true → set (neg_ℤ l) ≡ true) → set lit ≡ true
  implied fails hint lit number unit low = by_test (set (neg_ℤ lit))
      (λ is. absurd (kept.standing (λ k d lt. elim (unit.others k d lt) [
        | inl same ↦ subst (λ z. set (neg_ℤ z) ≡ true) (sym same) is
        | inr failed ↦ low (get_or (numbered earlier hint) k d) failed
      ])))
      (λ unset. kept.unit lit unit.there (λ k d lt. elim (unit.others k d lt) [
        | inl same ↦ inl same
        | inr failed ↦ inr (low (get_or (numbered earlier hint) k d) failed)
      ]) unset)
    where
      kept : IsPropagated set (numbered earlier hint)
      kept = kept_at hint number

  pub stuck : (fails : ℤ → Bool) (hints : List ℕ) → ((l : ℤ) → fails l ≡ true → set (neg_ℤ l) ≡ true) → Runs earlier fails hints → ⊥
  stuck fails [] low runs = runs
  stuck fails (hint ∷ []) low runs = (kept_at hint runs.0).standing (λ k d lt. low (get_or (numbered earlier hint) k d) (runs.1 k d lt))
  stuck fails (hint ∷ next ∷ hints) low runs =
      let (number, lit, unit, rest) = runs in
      stuck (joined lit fails) (next ∷ hints) (λ m in_. by_either (int_eq m (neg_ℤ lit)) (fails m) in_
      (λ same. subst (λ z. set z ≡ true) (sym (ap (λ z. neg_ℤ z) (same_lit m (neg_ℤ lit) same) ∙ neg_ℤ-neg_ℤ lit)) (implied fails hint lit number unit low))
      (λ old. low m old)) rest

module _ (s : Search) (t : IsSearch s) where
  pub front_consistent : (size : ℕ) → IsConsistent (is_in (take size s.lits))
  front_consistent size = record {
    apart = λ l is. by_test (is_in (take size s.lits) (neg_ℤ l))
        (λ back. absurd (t.once.apart.apart l (in_contains s.lits l (in_taken s.lits size l is)) (in_contains s.lits (neg_ℤ l) (in_taken s.lits size (neg_ℤ l) back))))
        (λ none. none);
  }

  module _ (seen : List Bool) (kept hints : List ℕ) (w : IsWalk s seen 0 kept hints) where
    abbrev clause : List ℤ
    clause = falses s.lits kept

    abbrev current : ℕ
    current = start_at s.starts (length s.starts - 1)

    size : length clause ≡ length kept
    size = length-map kept (λ p. neg_ℤ (lit_at s.lits p))

    at : (k : ℕ) (d : ℤ) → k < length kept → get_or clause k d ≡ neg_ℤ (lit_at s.lits (start_at kept k))
    at k d lt = get_or-map (λ p. neg_ℤ (lit_at s.lits p)) kept k 0 d lt

    back : (k : ℕ) (d : ℤ) → k < length kept → neg_ℤ (get_or clause k d) ≡ lit_at s.lits (start_at kept k)
    back k d lt = ap (λ z. neg_ℤ z) (at k d lt) ∙ neg_ℤ-neg_ℤ (lit_at s.lits (start_at kept k))

    inside : (k : ℕ) → k < length clause → k < length kept
    inside k lt = omega (arith, lt, size)

    negated_at : (k : ℕ) (d : ℤ) → k < length kept → is_in s.lits (neg_ℤ (get_or clause k d)) ≡ true
    negated_at k d lt = in_from s.lits (neg_ℤ (get_or clause k d)) (start_at kept k) (w.inside k lt) (sym (back k d lt))

    negated : (l : ℤ) → is_in clause l ≡ true → is_in s.lits (neg_ℤ l) ≡ true
    negated l is = let found = in_at clause l is in subst (λ z. is_in s.lits (neg_ℤ z) ≡ true) found.here (negated_at found.place (pos 0) (inside found.place found.inside))

    pub follows : Follows s.clauses clause (reverse hints)
    follows = w.run (is_in clause) negated (λ p less. absurd (omega (arith, less)))
        (λ k lt. in_from clause (neg_ℤ (lit_at s.lits (start_at kept k))) k (omega (arith, lt, size)) (at k (pos 0) lt))

    lit_same : (a b : ℤ) → neg_ℤ a ≡ neg_ℤ b → a ≡ b
    lit_same a b same = sym (neg_ℤ-neg_ℤ a) ∙ ap (λ z. neg_ℤ z) same ∙ neg_ℤ-neg_ℤ b

    place_same : (j k : ℕ) → j < length kept → k < length kept → lit_at clause j ≡ lit_at clause k → start_at kept j ≡ start_at kept k
    place_same j k jlt klt same = t.once.once (start_at kept j) (start_at kept k) (w.inside j jlt) (w.inside k klt)
        (lit_same (lit_at s.lits (start_at kept j)) (lit_at s.lits (start_at kept k)) (sym (at j (pos 0) jlt) ∙ same ∙ at k (pos 0) klt))

    index_same : (j k : ℕ) → j < length kept → k < length kept → lit_at clause j ≡ lit_at clause k → j ≡ k
    index_same j k jlt klt same = elim (cases_lt j k) [
      | inl less ↦ absurd (omega (arith, w.falling j k less klt, place_same j k jlt klt same))
      | inr more ↦ elim (cases_lt k j) [
        | inl less ↦ absurd (omega (arith, w.falling k j less jlt, place_same j k jlt klt same))
        | inr most ↦ omega (arith, more, most)
      ]
    ]

    pub learnt : IsLearnt s clause
    learnt = record {
      once = record {
        once = λ j k jlt klt same. index_same j k (inside j jlt) (inside k klt) same;
        apart = record {
          apart = λ l has back. t.once.apart.apart (neg_ℤ l) (in_contains s.lits (neg_ℤ l) (negated l (contains_in clause l has)))
              (in_contains s.lits (neg_ℤ (neg_ℤ l)) (negated (neg_ℤ l) (contains_in clause (neg_ℤ l) back)));
        };
      };
      negated = λ k d lt. negated_at k d (inside k lt);
    }

    -- ---- the level to jump to

    -- the negations of all literals but the first stand below this place
    others_below : (end : ℕ) → (2 ≤ length kept → start_at kept 1 < end) → AllButNegated (is_in (take end s.lits)) clause (lit_at clause 0)
    others_below end low k d lt = by_index k d (inside k lt) where
      by_index : (k : ℕ) (d : ℤ) → k < length kept → (get_or clause k d ≡ lit_at clause 0) ⊎ (is_in (take end s.lits) (neg_ℤ (get_or clause k d)) ≡ true)
      by_index zero d lt = inl (get_or_default clause 0 d (pos 0) (omega (arith, lt, size)))
      by_index (suc k) d lt = inr (at_take s.lits end (neg_ℤ (get_or clause (suc k) d)) (start_at kept (suc k)) (deep k lt) (w.inside (suc k) lt) (sym (back (suc k) d lt))) where
        deep : (k : ℕ) → suc k < length kept → start_at kept (suc k) < end
        deep zero lt = low (omega (arith, lt))
        deep (suc k) lt = omega (arith, w.falling 1 (suc (suc k)) (omega arith) lt, low (omega (arith, lt)))

    front_end : (level : ℕ) → level < length s.starts → front_size s level ≡ start_at s.starts level
    front_end level lt = get_or_default s.starts level (length s.lits) 0 lt

    low_second : 2 ≤ length kept → start_at kept 1 < current
    low_second two = w.others 1 (omega arith) (omega (arith, two))

    pub jumps : (level : ℕ) → (length kept < 2 → level ≡ 0) → level ≤ length s.starts → (2 ≤ length kept → (j : ℕ) → j < level → start_at s.starts j ≤ start_at kept 1)
        → (2 ≤ length kept → level < length s.starts → start_at kept 1 < start_at s.starts level) → IsJump s clause level
    jumps level none most low high = record {
      lower = λ some. lower some;
      reached = others_below (front_size s level) (λ two. omega (arith, high two (lower_two two), front_end level (lower_two two)));
      least = λ other less reached. elim (cases_lt (length kept) 2) [
        | inl few ↦ omega (arith, none few, less)
        | inr two ↦ elim (reached 1 (pos 0) (omega (arith, two, size))) [
          | inl same ↦ absurd (one_zero (index_same 1 0 (omega (arith, two)) (omega (arith, two)) same))
          | inr is ↦ no_both is (not_lower two other less)
        ]
      ];
      second = λ two other less. not_lower (omega (arith, two, size)) other less;
    } where
      one_zero : ◌≡◌ {A = ℕ} 1 0 → ⊥
      one_zero is = omega (arith, is)

      not_lower : 2 ≤ length kept → (other : ℕ) → other < level → is_in (front s other) (neg_ℤ (lit_at clause 1)) ≡ false
      not_lower two other less = not_before s.lits (front_size s other) (neg_ℤ (lit_at clause 1)) (λ p below lt here.
          let same = t.once.once p (start_at kept 1) lt (w.inside 1 (omega (arith, two))) (here ∙ back 1 (pos 0) (omega (arith, two))) in
          omega (arith, same, below, front_end other (omega (arith, less, most)), low two other less))

      lower_two : 2 ≤ length kept → level < length s.starts
      lower_two two = elim (cases_lt level (length s.starts)) [
        | inl less ↦ less
        | inr more ↦ absurd (omega (arith, low_second two, low two (length s.starts - 1) (omega (arith, more, w.level (omega (arith, two))))))
      ]

      lower : 0 < length s.starts → level < length s.starts
      lower some = elim (cases_lt (length kept) 2) [
        | inl few ↦ omega (arith, none few, some)
        | inr two ↦ lower_two two
      ]

    pub jumps_by : (level : ℕ) (starts places : List ℕ) → starts ≡ s.starts → places ≡ kept → (length places < 2 → level ≡ 0) → level ≤ length starts
        → (2 ≤ length places → (j : ℕ) → j < level → start_at starts j ≤ start_at places 1) → (2 ≤ length places → level < length starts → start_at places 1 < start_at starts level) → IsJump s clause level
    jumps_by level starts places same are none most low high = jumps level
        (λ few. none (subst (λ ps. length ps < 2) (sym are) few))
        (subst (λ ss. level ≤ length ss) same most)
        (λ two j less. (subst (λ ss. start_at ss j ≤ start_at kept 1) same (subst (λ ps. start_at starts j ≤ start_at ps 1) are (low (subst (λ ps. 2 ≤ length ps) (sym are) two) j less))))
        (λ two less. subst (λ ss. start_at kept 1 < start_at ss level) same (subst (λ ps. start_at ps 1 < start_at starts level) are
        (high (subst (λ ps. 2 ≤ length ps) (sym are) two) (subst (λ ss. level < length ss) (sym same) less))))

    -- ---- where all was propagated below the current level

    module _ (some : 0 < length s.starts) (done : IsDoneBelow s) where
      end_is : front_size s (length s.starts - 1) ≡ current
      end_is = front_end (length s.starts - 1) (omega (arith, some))

      below_is : below s ≡ take current s.lits
      below_is = ap (λ n. take n s.lits) end_is

      has_first : 0 < length kept → start_at kept 0 < current → ⊥
      has_first one low = stuck (is_in (below s)) s.clauses (front_consistent (front_size s (length s.starts - 1))) done (is_in clause) (reverse hints) deep follows where
        deep_at : (k : ℕ) → k < length kept → is_in (take current s.lits) (neg_ℤ (lit_at clause k)) ≡ true
        deep_at k lt = at_take s.lits current (neg_ℤ (lit_at clause k)) (start_at kept k) (low_at k lt) (w.inside k lt) (sym (back k (pos 0) lt)) where
          low_at : (k : ℕ) → k < length kept → start_at kept k < current
          low_at zero lt = low
          low_at (suc k) lt = w.others (suc k) (omega arith) lt

        deep : (l : ℤ) → is_in clause l ≡ true → is_in (below s) (neg_ℤ l) ≡ true
        deep l is = let found = in_at clause l is in
            subst (λ ls. is_in ls (neg_ℤ l) ≡ true) (sym below_is) (subst (λ z. is_in (take current s.lits) (neg_ℤ z) ≡ true) found.here (deep_at found.place (inside found.place found.inside)))

      not_empty : length kept ≡ 0 → ⊥
      not_empty none = stuck (is_in (below s)) s.clauses (front_consistent (front_size s (length s.starts - 1))) done (is_in clause) (reverse hints)
          (λ l is. let found = in_at clause l is in absurd (omega (arith, found.inside, size, none))) follows

      one : 0 < length kept
      one = elim (cases_lt 0 (length kept)) [
        | inl less ↦ less
        | inr most ↦ absurd (not_empty (omega (arith, most)))
      ]

      high : current ≤ start_at kept 0
      high = elim (cases_lt (start_at kept 0) current) [
        | inl less ↦ absurd (has_first one less)
        | inr more ↦ more
      ]

      first_open : is_in (below s) (neg_ℤ (lit_at clause 0)) ≡ false
      first_open = subst (λ ls. is_in ls (neg_ℤ (lit_at clause 0)) ≡ false) (sym below_is) (not_before s.lits current (neg_ℤ (lit_at clause 0)) (λ p low lt here.
          let same = t.once.once p (start_at kept 0) lt (w.inside 0 one) (here ∙ back 0 (pos 0) one) in
          omega (arith, same, low, high)))

      others : AllButNegated (is_in (below s)) clause (lit_at clause 0)
      others = subst (λ ls. AllButNegated (is_in ls) clause (lit_at clause 0)) (sym below_is) (others_below current low_second)

      pub asserts : IsAsserting s clause
      asserts = record { some = omega (arith, one, size); first = first_open; others = others }

      pub teaches : Teaches s.clauses clause
      teaches = record {
        lit = lit_at clause 0;
        there = Contains-get_or clause 0 (pos 0) (omega (arith, one, size));
        set = is_in (below s);
        consistent = front_consistent (front_size s (length s.starts - 1));
        closed = done;
        others = others;
        open_ = by_test (is_in (below s) (lit_at clause 0))
            (λ is. absurd (t.once.apart.apart (lit_at clause 0) (in_contains s.lits (lit_at clause 0) (in_taken s.lits (front_size s (length s.starts - 1)) (lit_at clause 0) is))
            (in_contains s.lits (neg_ℤ (lit_at clause 0)) (negated_at 0 (pos 0) one))))
            (λ none. none);
        open_negated = first_open;
      }
