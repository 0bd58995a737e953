-- What watches keep: closed levels, and levels that are taken back or begun.
use Rattle.std.proofs.Common.{◌≡◌, ℕ, ◌+◌, ◌-◌, ◌<◌, ◌≤◌, inl, inr, ℤ, neg_ℤ, true, Option, Some, None, List, [], ◌∷◌, ◌++◌, length, take, min, get_or, refl, sym, ap, ◌∙◌, subst, arith}
use Rattle.std.proofs.lemmas.Bool.{cases_lt}
use Rattle.std.proofs.lemmas.List.{take-take, take-append-le, take_at, length-take, length-take-le, length_push, get_or-take, get_or_past, get_or_default, get_or_append_left, get_or_push}
use Rattle.clause_base.specs.Literals.{is_in}
use Rattle.clause_base.specs.Teaching.{IsPropagated, IsClosed}
use Rattle.refutation_check.specs.Following.{IsNumber, numbered}
use Rattle.search_trail.specs.Trails.{Search, IsSearch, start_at, front, front_size, with_clause, with_decision, with_implied, back_at}
use Rattle.search_trail.proofs.Members.{in_further}
use Rattle.search_trail.proofs.Growing.{size_inside}
use Rattle.clause_watches.specs.Listing.{pair_of}
use Rattle.clause_watches.specs.Watching.{Watched, IsBacked, IsWatched, AreWatched, with_pair, gone_back}
use Rattle.clause_watches.proofs.Fronts.{by_level, guarded, fixed, tautology, on_trail, kept_implied}

-- ---- closed

pub lowest : (s : Search) (level : ℕ) → IsSearch s → front_size s 0 ≤ front_size s level
lowest s level t = by_level s 0
    (λ some size. by_level s level
    (λ less size_too. zero_or level less size size_too)
    (λ more all. omega (arith, size_inside s.vars s.clauses s.lits s.reasons s.starts t 0, get_or_past s.starts level (length s.lits) more)))
    (λ none all. omega (arith, get_or_past s.starts 0 (length s.lits) none, get_or_past s.starts level (length s.lits) (omega (arith, none))))
  where
    zero_or : (level : ℕ) → level < length s.starts → front_size s 0 ≡ start_at s.starts 0 → front_size s level ≡ start_at s.starts level → front_size s 0 ≤ front_size s level
    zero_or level less size size_too = elim (cases_lt 0 level) [
      | inl above ↦ omega (arith, t.levels.rising 0 level above less, size, size_too)
      | inr zero_is ↦ let is : 0 ≡ level = omega (arith, zero_is) in omega (arith, ap (λ m. front_size s m) is)
    ]

pub closed : (s : Search) (w : Watched) (level : ℕ) → IsSearch s → AreWatched s w → front_size s level ≤ w.head → IsClosed (is_in (front s level)) s.clauses
closed s w level t k low n d lt = subst (IsPropagated (is_in (front s level))) (sym same) (by_pair (pair_of w.pairs (n + 1)) (k.kept (n + 1) known)) where
  known : IsNumber s.clauses (n + 1)
  known = record { some = omega arith; most = omega (arith, lt) }

  same : get_or s.clauses n d ≡ numbered s.clauses (n + 1)
  same = get_or_default s.clauses n d [] lt ∙ ap (λ m. get_or s.clauses m []) (less n) where
    less : (n : ℕ) → n ≡ n + 1 - 1
    less n = omega arith

  by_pair : (pair : Option (ℤ × ℤ)) → IsWatched s w.head (numbered s.clauses (n + 1)) pair → IsPropagated (is_in (front s level)) (numbered s.clauses (n + 1))
  by_pair None (inl twice) = tautology s t.once (front_size s level) w.head level refl low (numbered s.clauses (n + 1)) twice
  by_pair None (inr true_) = let (j, m, jlt, at, is) = true_ in
      fixed s t.once (front_size s level) w.head level refl low (numbered s.clauses (n + 1)) m (j, jlt, at) (in_further s.lits (front_size s 0) (front_size s level) m (lowest s level t) is)
  by_pair (Some (a, b)) g = guarded s t.once (front_size s level) w.head level refl low (numbered s.clauses (n + 1)) a b g

-- ---- a clause or a literal more

same_kept : (s : Search) (clause : List ℤ) (head : ℕ) (other : List ℤ) (pair : Option (ℤ × ℤ)) → IsWatched s head other pair → IsWatched (with_clause s clause) head other pair
same_kept s clause head other None kept = kept
same_kept s clause head other (Some (a, b)) g = record {
  first = g.first;
  second = g.second;
  differ = g.differ;
  first_backed = record { backed = g.first_backed.backed };
  second_backed = record { backed = g.second_backed.backed };
}

pub clause_kept : (s : Search) (w : Watched) (clause : List ℤ) (pair : Option (ℤ × ℤ)) → AreWatched s w → IsWatched s w.head clause pair → AreWatched (with_clause s clause) (with_pair w pair)
clause_kept s w clause pair k kept = record {
  vars = k.vars;
  paired = length_push w.pairs pair ∙ ap (λ n. n + 1) k.paired ∙ sym (length_push s.clauses clause);
  gone = k.gone;
  levels = k.levels;
  kept = λ n known. elim (cases_lt (n - 1) (length s.clauses)) [
    | inl less ↦ subst (λ c. IsWatched (with_clause s clause) w.head c (pair_of (w.pairs ++ pair ∷ []) n)) (sym (get_or_append_left s.clauses (clause ∷ []) [] (n - 1) less))
        (subst (IsWatched (with_clause s clause) w.head (numbered s.clauses n)) (sym (get_or_append_left w.pairs (pair ∷ []) None (n - 1) (omega (arith, less, k.paired))))
        (same_kept s clause w.head (numbered s.clauses n) (pair_of w.pairs n) (k.kept n (old n less known.some))))
    | inr more ↦ subst (λ c. IsWatched (with_clause s clause) w.head c (pair_of (w.pairs ++ pair ∷ []) n)) (sym (get_or_push s.clauses clause [] (n - 1) (last n more known.most)))
        (subst (IsWatched (with_clause s clause) w.head clause) (sym (get_or_push w.pairs pair None (n - 1) (k.paired ∙ last n more known.most)))
        (same_kept s clause w.head clause pair kept))
  ];
} where
  old : (n : ℕ) → n - 1 < length s.clauses → 0 < n → IsNumber s.clauses n
  old n less some = record { some = some; most = omega (arith, less, some) }

  last : (n : ℕ) → length s.clauses ≤ n - 1 → n ≤ length (s.clauses ++ clause ∷ []) → length s.clauses ≡ n - 1
  last n more most = omega (arith, more, most, length_push s.clauses clause)

pub implied_kept : (s : Search) (w : Watched) (lit : ℤ) (number : ℕ) → IsSearch s → AreWatched s w → AreWatched (with_implied s lit number) w
implied_kept s w lit number t k = record {
  vars = k.vars;
  paired = k.paired;
  gone = omega (arith, k.gone, length_push s.lits lit);
  levels = k.levels;
  kept = λ n known. kept_implied s t.once w.head k.levels lit number (numbered s.clauses n) (pair_of w.pairs n) k.gone (k.kept n known);
}

-- ---- a level begins

module _ (s : Search) (w : Watched) (lit : ℤ) (t : IsSearch s) (k : AreWatched s w) (all : w.head ≡ length s.lits) where
  low_same : (level : ℕ) → level < length s.starts → front (with_decision s lit) level ≡ front s level
  low_same level less =
      ap (λ n. take n (s.lits ++ lit ∷ [])) (get_or_append_left s.starts (length s.lits ∷ []) (length (s.lits ++ lit ∷ [])) level less ∙ get_or_default s.starts level (length (s.lits ++ lit ∷ [])) (length s.lits) less)
      ∙ take-append-le (front_size s level) s.lits (lit ∷ []) (size_inside s.vars s.clauses s.lits s.reasons s.starts t level)

  high_size : (level : ℕ) → length s.starts ≤ level → length s.lits ≤ front_size (with_decision s lit) level
  high_size level more = elim (cases_lt (length s.starts) level) [
    | inl above ↦ omega (arith, get_or_past (s.starts ++ length s.lits ∷ []) level (length (s.lits ++ lit ∷ [])) (omega (arith, above, length_push s.starts (length s.lits))), length_push s.lits lit)
    | inr most ↦ omega (arith, get_or_push s.starts (length s.lits) (length (s.lits ++ lit ∷ [])) level (omega (arith, more, most)))
  ]

  high_in : (level : ℕ) (l : ℤ) → length s.starts ≤ level → is_in s.lits l ≡ true → is_in (front (with_decision s lit) level) l ≡ true
  high_in level l more is = in_further (s.lits ++ lit ∷ []) (length s.lits) (front_size (with_decision s lit) level) l (high_size level more)
      (subst (λ ls. is_in ls l ≡ true) (sym (take_at s.lits (lit ∷ []) (length s.lits) refl)) is)

  in_front : (level : ℕ) (l : ℤ) → is_in (front s level) l ≡ true → is_in (front (with_decision s lit) level) l ≡ true
  in_front level l is = by_level s level
      (λ less size. subst (λ ls. is_in ls l ≡ true) (sym (low_same level less)) is)
      (λ more top. high_in level l more (subst (λ ls. is_in ls l ≡ true) top is))

  passed_same : take w.head (s.lits ++ lit ∷ []) ≡ take w.head s.lits
  passed_same = take-append-le w.head s.lits (lit ∷ []) k.gone

  backed : (a b : ℤ) → IsBacked s w.head a b → IsBacked (with_decision s lit) w.head a b
  backed a b is = record {
    backed = λ passed level on.
        let was : is_in (take w.head s.lits) (neg_ℤ a) ≡ true = subst (λ ls. is_in ls (neg_ℤ a) ≡ true) passed_same passed in
        by_level s level
        (λ less size. in_front level b (is.backed was level (subst (λ ls. is_in ls (neg_ℤ a) ≡ true) (low_same level less) on)))
        (λ more top. high_in level b more (on_trail s t.once w.head k.levels a b is was));
  }

  decided : (clause : List ℤ) (pair : Option (ℤ × ℤ)) → IsWatched s w.head clause pair → IsWatched (with_decision s lit) w.head clause pair
  decided clause None (inl twice) = inl twice
  decided clause None (inr true_) = let (j, m, jlt, at, is) = true_ in inr (j, m, jlt, at, in_front 0 m is)
  decided clause (Some (a, b)) g = record { first = g.first; second = g.second; differ = g.differ; first_backed = backed a b g.first_backed; second_backed = backed b a g.second_backed }

  pub decision_kept : AreWatched (with_decision s lit) w
  decision_kept = record {
    vars = k.vars;
    paired = k.paired;
    gone = omega (arith, k.gone, length_push s.lits lit);
    levels = λ j lt. elim (cases_lt j (length s.starts)) [
      | inl less ↦ omega (arith, get_or_append_left s.starts (length s.lits ∷ []) 0 j less, k.levels j less)
      | inr more ↦ omega (arith, get_or_push s.starts (length s.lits) 0 j (omega (arith, more, lt, length_push s.starts (length s.lits))), all)
    ];
    kept = λ n known. decided (numbered s.clauses n) (pair_of w.pairs n) (k.kept n known);
  }

-- ---- levels are taken back

module _ (s : Search) (w : Watched) (level : ℕ) (t : IsSearch s) (k : AreWatched s w) where
  abbrev size : ℕ
  size = front_size s level

  abbrev s' : Search
  s' = back_at s level

  within : size ≤ length s.lits
  within = size_inside s.vars s.clauses s.lits s.reasons s.starts t level

  long : length (take size s.lits) ≡ size
  long = length-take-le size s.lits within

  old : (j : ℕ) → j < length (take level s.starts) → j < length s.starts
  old j lt = omega (arith, lt, length-take level s.starts)

  below : (j : ℕ) → j < length (take level s.starts) → j < level
  below j lt = omega (arith, lt, length-take level s.starts)

  start_low : (j : ℕ) → j < length (take level s.starts) → start_at s.starts j ≤ size
  start_low j lt = elim (cases_lt level (length s.starts)) [
    | inl less ↦ omega (arith, t.levels.rising j level (below j lt) less, get_or_default s.starts level (length s.lits) 0 less)
    | inr more ↦ omega (arith, t.levels.inside j (old j lt), get_or_past s.starts level (length s.lits) more)
  ]

  low_front : (j : ℕ) → j < length (take level s.starts) → front s' j ≡ front s j
  low_front j lt =
      ap (λ n. take n (take size s.lits)) (get_or_default (take level s.starts) j (length (take size s.lits)) 0 lt ∙ get_or-take level s.starts j 0 (below j lt))
      ∙ take-take (start_at s.starts j) size s.lits (start_low j lt) ∙ ap (λ n. take n s.lits) (sym (get_or_default s.starts j (length s.lits) 0 (old j lt)))

  by_front : (P : List ℤ → Type 0) (j : ℕ) → (j < length (take level s.starts) → P (front s j)) → (length (take level s.starts) ≤ j → P (front s level)) → P (front s' j)
  by_front P j low high = by_level s' j
      (λ less size_is. subst P (sym (low_front j less)) (low less))
      (λ more top. subst P (sym top) (high more))

  passed : (l : ℤ) → is_in (take (min w.head size) (take size s.lits)) l ≡ true → is_in (take w.head s.lits) l ≡ true
  passed l is = in_further s.lits (min w.head size) w.head l (omega arith) (subst (λ ls. is_in ls l ≡ true) (take-take (min w.head size) size s.lits (omega arith)) is)

  back_backed : (a b : ℤ) → IsBacked s w.head a b → IsBacked s' (min w.head size) a b
  back_backed a b is = record {
    backed = λ gone j.
        by_front (λ ls. is_in ls (neg_ℤ a) ≡ true → is_in ls b ≡ true) j
        (λ less on. is.backed (passed (neg_ℤ a) gone) j on)
        (λ more on. is.backed (passed (neg_ℤ a) gone) level on);
  }

  back_one : (clause : List ℤ) (pair : Option (ℤ × ℤ)) → IsWatched s w.head clause pair → IsWatched s' (min w.head size) clause pair
  back_one clause None (inl twice) = inl twice
  back_one clause None (inr true_) = let (j, m, jlt, at, is) = true_ in
      inr (j, m, jlt, at, by_front (λ ls. is_in ls m ≡ true) 0 (λ less. is) (λ more. in_further s.lits (front_size s 0) (front_size s level) m (lowest s level t) is))
  back_one clause (Some (a, b)) g = record { first = g.first; second = g.second; differ = g.differ; first_backed = back_backed a b g.first_backed; second_backed = back_backed b a g.second_backed }

  pub back_kept : AreWatched s' (gone_back w size)
  back_kept = record {
    vars = k.vars;
    paired = k.paired;
    gone = omega (arith, long);
    levels = λ j lt. omega (arith, get_or-take level s.starts j 0 (below j lt), k.levels j (old j lt), start_low j lt);
    kept = λ n known. back_one (numbered s.clauses n) (pair_of w.pairs n) (k.kept n known);
  }
