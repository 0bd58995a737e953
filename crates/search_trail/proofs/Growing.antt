-- A trail stays one: by a clause more, a literal more, and where levels are taken back.
use Rattle.std.proofs.Common.{◌≡◌, ℕ, ◌+◌, ◌-◌, ◌<◌, ◌≤◌, ◌⊎◌, inl, inr, ℤ, pos, neg_ℤ, nat_abs, false, Option, Some, None, Result, Ok, Err, OnOk, OnErr, IfOk, List, [], ◌∷◌, ◌++◌, length, take, slice_index_or, refl, sym, ap, ◌∙◌, subst, arith}
use Rattle.std.specs.List.{All, Contains}
use Rattle.std.proofs.lemmas.Int.{ints}
use Rattle.std.proofs.lemmas.Bool.{cases_lt}
use Rattle.std.proofs.lemmas.Bool.Decides.{nat_tests}
use Rattle.std.proofs.lemmas.List.{length_push, length-take, length-take-le, take_all, take-take, take-append-le, take_at, get_or-take, get_or_past, get_or_append_left, get_or_push, get_or_default}
use Rattle.std.proofs.lemmas.List.Elements.{All-contains, All-push, All-take, Contains-append_left, Contains-push, Contains-push_cases}
use Rattle.std.proofs.Math.IntN.{neg_ℤ-neg_ℤ}
use Rattle.clause_base.specs.Literals.{is_in, IsLiteral, lit_at}
use Rattle.clause_base.specs.Formulas.{IsClauseWithin}
use Rattle.clause_base.specs.Teaching.{AllButNegated}
use Rattle.clause_base.specs.Plain.{IsOnce}
use Rattle.clause_base.proofs.LiteralLemmas.{no_both, contains_in, in_contains}
use Rattle.refutation_check.specs.Following.{numbered}
use Rattle.search_trail.specs.Trails.{reason_at, start_at, IsReason, AreStarts, IsTrail}
use Rattle.search_trail.proofs.Members.{by_push, lit_before, lit_new, not_at, in_taken, start_before, start_new}

-- ---- a clause more

reason_more : (cs : List (List ℤ)) (clause before : List ℤ) (lit : ℤ) (number : ℕ) → IsReason cs before lit number → IsReason (cs ++ clause ∷ []) before lit number
reason_more cs clause before lit number is = record {
  known = record { some = is.known.some; most = omega (arith, is.known.most, length_push cs clause) };
  there = subst (λ c. Contains c lit) same is.there;
  others = subst (λ c. AllButNegated (is_in before) c lit) same is.others;
} where
  same : numbered cs number ≡ numbered (cs ++ clause ∷ []) number
  same = sym (get_or_append_left cs (clause ∷ []) [] (number - 1) (omega (arith, is.known.some, is.known.most)))

pub clause_more : (vars : ℕ) (cs new : List (List ℤ)) (lits clause : List ℤ) (reasons : List (Option ℕ)) (starts : List ℕ) → IsTrail vars cs lits reasons starts → IsClauseWithin vars clause
    → new ≡ cs ++ clause ∷ [] → IsTrail vars new lits reasons starts
clause_more vars cs new lits clause reasons starts t within is = subst (λ n. IsTrail vars n lits reasons starts) (sym is) (record {
  within = All-push (IsClauseWithin vars) cs clause t.within within;
  small = t.small;
  once = t.once;
  reasoned = record {
    paired = t.reasoned.paired;
    implied = λ place number lt why. reason_more cs clause (take place lits) (lit_at lits place) number (t.reasoned.implied place number lt why);
    decided = t.reasoned.decided;
    begun = t.reasoned.begun;
  };
  levels = t.levels;
})

pub clause_tried : {A E : Type 0} (vars : ℕ) (cs new : List (List ℤ)) (lits clause : List ℤ) (reasons : List (Option ℕ)) (starts : List ℕ) (r : Result A E) → IsTrail vars cs lits reasons starts → IsClauseWithin vars clause
    → IfOk r (λ _. new ≡ cs ++ clause ∷ []) → OnErr r (new ≡ cs) → IsTrail vars new lits reasons starts
clause_tried vars cs new lits clause reasons starts (Ok x) t within ok err = clause_more vars cs new lits clause reasons starts t within ok
clause_tried vars cs new lits clause reasons starts (Err e) t within ok err = subst (λ n. IsTrail vars n lits reasons starts) (sym err) t

-- ---- a literal more

not_own : (lit : ℤ) → IsLiteral lit → lit ≡ neg_ℤ lit → ⊥
not_own lit is same = grind (arith, ints, nat_tests, is, same)

once_more : (lits : List ℤ) (lit : ℤ) → IsOnce lits → IsLiteral lit → is_in lits lit ≡ false → is_in lits (neg_ℤ lit) ≡ false → IsOnce (lits ++ lit ∷ [])
once_more lits lit once literal unset unset_negated = record {
  once = λ p q plt qlt same. by_push lits lit p plt
      (λ old. by_push lits lit q qlt
      (λ older. once.once p q old older (sym (lit_before lits lit p old) ∙ same ∙ lit_before lits lit q older))
      (λ new. absurd (not_at lits lit unset p old (sym (lit_before lits lit p old) ∙ same ∙ lit_new lits lit q new))))
      (λ new. by_push lits lit q qlt
      (λ older. absurd (not_at lits lit unset q older (sym (lit_before lits lit q older) ∙ sym same ∙ lit_new lits lit p new)))
      (λ newer. sym new ∙ newer));
  apart = record { apart = λ l has back. clash l (Contains-push_cases lits lit l has) (Contains-push_cases lits lit (neg_ℤ l) back) };
} where
  clash : (l : ℤ) → Contains lits l ⊎ (lit ≡ l) → Contains lits (neg_ℤ l) ⊎ (lit ≡ neg_ℤ l) → ⊥
  clash l (inl has) (inl back) = once.apart.apart l has back
  clash l (inl has) (inr new) = no_both (contains_in lits (neg_ℤ lit) (subst (Contains lits) (sym (ap (λ z. neg_ℤ z) new ∙ neg_ℤ-neg_ℤ l)) has)) unset_negated
  clash l (inr new) (inl back) = no_both (contains_in lits (neg_ℤ lit) (subst (λ z. Contains lits (neg_ℤ z)) (sym new) back)) unset_negated
  clash l (inr new) (inr newer) = not_own lit literal (newer ∙ ap (λ z. neg_ℤ z) (sym new))

module _ (vars : ℕ) (cs : List (List ℤ)) (lits : List ℤ) (reasons : List (Option ℕ)) (starts : List ℕ) (t : IsTrail vars cs lits reasons starts) where
  start_inside : (p : ℕ) → Contains starts p → p < length lits
  start_inside p has = let (k, lt, at) = has in omega (arith, t.levels.inside k lt, get_or_default starts k 0 p lt, at)

  pub literal_more : (lit : ℤ) (reason : Option ℕ) (after : List ℕ) → IsLiteral lit → nat_abs lit ≤ vars → is_in lits lit ≡ false → is_in lits (neg_ℤ lit) ≡ false
      → ((number : ℕ) → reason ≡ Some number → IsReason cs lits lit number) → (reason ≡ None → Contains after (length lits)) → ((p : ℕ) → Contains starts p → Contains after p)
      → ((p : ℕ) → Contains after p → Contains starts p ⊎ ((length lits ≡ p) × (reason ≡ None))) → AreStarts after (length lits + 1)
      → IsTrail vars cs (lits ++ lit ∷ []) (reasons ++ reason ∷ []) after
  literal_more lit reason after literal small unset unset_negated implied decided grown begun levels = record {
    within = t.within;
    small = All-push (λ l. nat_abs l ≤ vars) lits lit t.small small;
    once = once_more lits lit t.once literal unset unset_negated;
    reasoned = record {
      paired = length_push reasons reason ∙ ap (λ n. n + 1) t.reasoned.paired ∙ sym (length_push lits lit);
      implied = λ place number lt why. by_push lits lit place lt
          (λ old. subst (λ l. IsReason cs (take place (lits ++ lit ∷ [])) l number) (sym (lit_before lits lit place old))
          (subst (λ ls. IsReason cs ls (lit_at lits place) number) (sym (take-append-le place lits (lit ∷ []) (omega (arith, old))))
          (t.reasoned.implied place number old (sym (why_old place old) ∙ why))))
          (λ new. subst (λ l. IsReason cs (take place (lits ++ lit ∷ [])) l number) (sym (lit_new lits lit place new))
          (subst (λ ls. IsReason cs ls lit number) (sym (take_at lits (lit ∷ []) place new)) (implied number (sym (why_new place new) ∙ why))));
      decided = λ place lt why. by_push lits lit place lt
          (λ old. grown place (t.reasoned.decided place old (sym (why_old place old) ∙ why)))
          (λ new. subst (Contains after) new (decided (sym (why_new place new) ∙ why)));
      begun = λ place has. elim (begun place has) [
        | inl old ↦ why_old place (start_inside place old) ∙ t.reasoned.begun place old
        | inr new ↦ why_new place new.0 ∙ new.1
      ];
    };
    levels = subst (AreStarts after) (sym (length_push lits lit)) levels;
  } where
    why_old : (place : ℕ) → place < length lits → reason_at (reasons ++ reason ∷ []) place ≡ reason_at reasons place
    why_old place lt = get_or_append_left reasons (reason ∷ []) None place (omega (arith, lt, t.reasoned.paired))

    why_new : (place : ℕ) → length lits ≡ place → reason_at (reasons ++ reason ∷ []) place ≡ reason
    why_new place at = get_or_push reasons reason None place (t.reasoned.paired ∙ at)

  pub implied_more : (lit : ℤ) (number : ℕ) → IsLiteral lit → nat_abs lit ≤ vars → is_in lits lit ≡ false → is_in lits (neg_ℤ lit) ≡ false → IsReason cs lits lit number
      → IsTrail vars cs (lits ++ lit ∷ []) (reasons ++ Some number ∷ []) starts
  implied_more lit number literal small unset unset_negated reason = literal_more lit (Some number) starts literal small unset unset_negated
      (λ other same. subst (λ n. IsReason cs lits lit n) (is_some number other same) reason)
      (λ none. absurd (not_none number none))
      (λ p has. has) (λ p has. inl has)
      (record { rising = t.levels.rising; inside = λ j lt. omega (arith, t.levels.inside j lt) })
    where
      is_some : (a b : ℕ) → Some a ≡ Some b → a ≡ b
      is_some a b same = cc

      not_none : (a : ℕ) → Some a ≡ None → ⊥
      not_none a same = cc

  pub decision_more : (lit : ℤ) → IsLiteral lit → nat_abs lit ≤ vars → is_in lits lit ≡ false → is_in lits (neg_ℤ lit) ≡ false
      → IsTrail vars cs (lits ++ lit ∷ []) (reasons ++ None ∷ []) (starts ++ length lits ∷ [])
  decision_more lit literal small unset unset_negated = literal_more lit None (starts ++ length lits ∷ []) literal small unset unset_negated
      (λ number none. absurd (not_none number none))
      (λ none. Contains-push starts (length lits))
      (λ p has. Contains-append_left starts (length lits ∷ []) p has)
      (λ p has. elim (Contains-push_cases starts (length lits) p has) [ inl old ↦ inl old | inr new ↦ inr (new, refl) ])
      (record { rising = rising; inside = inside })
    where
      not_none : (a : ℕ) → None ≡ Some a → ⊥
      not_none a same = cc

      inside : (j : ℕ) → j < length (starts ++ length lits ∷ []) → start_at (starts ++ length lits ∷ []) j < length lits + 1
      inside j lt = elim (cases_lt j (length starts)) [
        | inl old ↦ omega (arith, start_before starts (length lits) j old, t.levels.inside j old)
        | inr new ↦ omega (arith, start_new starts (length lits) j (omega (arith, new, lt, length_push starts (length lits))))
      ]

      rising : (i j : ℕ) → i < j → j < length (starts ++ length lits ∷ []) → start_at (starts ++ length lits ∷ []) i < start_at (starts ++ length lits ∷ []) j
      rising i j ij lt = elim (cases_lt j (length starts)) [
        | inl old ↦ omega (arith, start_before starts (length lits) j old, start_before starts (length lits) i (omega (arith, ij, old)), t.levels.rising i j ij old)
        | inr new ↦
            let low : i < length starts = omega (arith, ij, lt, length_push starts (length lits)) in
            omega (arith, start_before starts (length lits) i low, t.levels.inside i low, start_new starts (length lits) j (omega (arith, new, lt, length_push starts (length lits))))
      ]

  -- ---- levels are taken back

  pub size_inside : (level : ℕ) → slice_index_or starts level (length lits) ≤ length lits
  size_inside level = elim (cases_lt level (length starts)) [
    | inl less ↦ omega (arith, get_or_default starts level (length lits) 0 less, t.levels.inside level less)
    | inr more ↦ omega (arith, get_or_past starts level (length lits) more)
  ]

  pub levels_back : (level size : ℕ) → size ≡ slice_index_or starts level (length lits) → IsTrail vars cs (take size lits) (take size reasons) (take level starts)
  levels_back level size is = record {
    within = t.within;
    small = All-take (λ l. nat_abs l ≤ vars) size lits t.small;
    once = record {
      once = λ p q plt qlt same. t.once.once p q (omega (arith, plt, long, within)) (omega (arith, qlt, long, within))
          (sym (at p (omega (arith, plt, long))) ∙ same ∙ at q (omega (arith, qlt, long)));
      apart = record { apart = λ l has back. t.once.apart.apart l (taken l has) (taken (neg_ℤ l) back) };
    };
    reasoned = record {
      paired = length-take-le size reasons (omega (arith, within, t.reasoned.paired)) ∙ sym long;
      implied = λ place number lt why.
          let low : place < size = omega (arith, lt, long) in
          subst (λ l. IsReason cs (take place (take size lits)) l number) (sym (at place low))
          (subst (λ ls. IsReason cs ls (lit_at lits place) number) (sym (take-take place size lits (omega (arith, low))))
          (t.reasoned.implied place number (omega (arith, low, within)) (sym (get_or-take size reasons place None low) ∙ why)));
      decided = λ place lt why.
          let low : place < size = omega (arith, lt, long) in
          kept place low (t.reasoned.decided place (omega (arith, low, within)) (sym (get_or-take size reasons place None low) ∙ why));
      begun = λ place has. elim (cases_lt place size) [
        | inl low ↦ get_or-take size reasons place None low ∙ t.reasoned.begun place (was place has)
        | inr more ↦ get_or_past (take size reasons) place None (omega (arith, more, length-take-le size reasons (omega (arith, within, t.reasoned.paired))))
      ];
    };
    levels = record {
      rising = λ i j ij lt. omega (arith, level_at i (omega (arith, ij, lt)), level_at j lt, t.levels.rising i j ij (old j lt));
      inside = λ j lt. subst (λ n. start_at (take level starts) j < n) (sym long) (inside j lt);
    };
  } where
    within : size ≤ length lits
    within = omega (arith, is, size_inside level)

    long : length (take size lits) ≡ size
    long = length-take-le size lits within

    at : (p : ℕ) → p < size → lit_at (take size lits) p ≡ lit_at lits p
    at p lt = get_or-take size lits p (pos 0) lt

    taken : (l : ℤ) → Contains (take size lits) l → Contains lits l
    taken l has = in_contains lits l (in_taken lits size l (contains_in (take size lits) l has))

    old : (j : ℕ) → j < length (take level starts) → j < length starts
    old j lt = omega (arith, lt, length-take level starts)

    low_level : (j : ℕ) → j < length (take level starts) → j < level
    low_level j lt = omega (arith, lt, length-take level starts)

    level_at : (j : ℕ) → j < length (take level starts) → start_at (take level starts) j ≡ start_at starts j
    level_at j lt = get_or-take level starts j 0 (low_level j lt)

    was : (p : ℕ) → Contains (take level starts) p → Contains starts p
    was p has = let (k, lt, here) = has in (k, old k lt, sym (get_or-take level starts k p (low_level k lt)) ∙ here)

    inside : (j : ℕ) → j < length (take level starts) → start_at (take level starts) j < size
    inside j lt = elim (cases_lt level (length starts)) [
      | inl less ↦ omega (arith, level_at j lt, t.levels.rising j level (low_level j lt) less, is, get_or_default starts level (length lits) 0 less)
      | inr more ↦ omega (arith, level_at j lt, t.levels.inside j (old j lt), is, get_or_past starts level (length lits) more)
    ]

    kept : (p : ℕ) → p < size → Contains starts p → Contains (take level starts) p
    kept p low has = let (k, lt, here) = has in elim (cases_lt level (length starts)) [
      | inl less ↦ elim (cases_lt k level) [
        | inl kl ↦ (k, omega (arith, kl, lt, length-take level starts), get_or-take level starts k p kl ∙ here)
        | inr lk ↦ absurd (too_high k lt lk less (get_or_default starts k 0 p lt ∙ here) (get_or_default starts level (length lits) 0 less))
      ]
      | inr more ↦ subst (λ s. Contains s p) (sym (take_all level starts more)) has
    ]
      where
        too_high : (k : ℕ) → k < length starts → level ≤ k → level < length starts → start_at starts k ≡ p → slice_index_or starts level (length lits) ≡ start_at starts level → ⊥
        too_high k lt lk less here top = elim (cases_lt level k) [
          | inl more ↦ omega (arith, t.levels.rising level k more lt, here, top, is, low)
          | inr same ↦ let equal : level ≡ k = omega (arith, lk, same) in omega (arith, ap (λ n. start_at starts n) equal, here, top, is, low)
        ]

-- ---- as the code makes them

changed : (vars vars' : ℕ) (cs : List (List ℤ)) (lits lits' : List ℤ) (reasons reasons' : List (Option ℕ)) (starts starts' : List ℕ) → vars' ≡ vars → lits' ≡ lits → reasons' ≡ reasons → starts' ≡ starts
    → IsTrail vars cs lits reasons starts → IsTrail vars' cs lits' reasons' starts'
changed vars vars' cs lits lits' reasons reasons' starts starts' v l r s t =
    subst (λ x. IsTrail x cs lits' reasons' starts') (sym v) (subst (λ x. IsTrail vars cs x reasons' starts') (sym l)
    (subst (λ x. IsTrail vars cs lits x starts') (sym r) (subst (λ x. IsTrail vars cs lits reasons x) (sym s) t)))

reason_small : (vars : ℕ) (cs : List (List ℤ)) (before : List ℤ) (lit : ℤ) (number : ℕ) → All (IsClauseWithin vars) cs → IsReason cs before lit number → nat_abs lit ≤ vars
reason_small vars cs before lit number within is = All-contains (λ l. nat_abs l ≤ vars) (numbered cs number) lit
    (within (number - 1) [] (omega (arith, is.known.some, is.known.most))) is.there

module _ (vars vars' : ℕ) (cs : List (List ℤ)) (lits lits' : List ℤ) (reasons reasons' : List (Option ℕ)) (starts starts' : List ℕ) (same : vars' ≡ vars) (t : IsTrail vars cs lits reasons starts) where
  pub back_by : (level size : ℕ) → size ≡ slice_index_or starts level (length lits) → lits' ≡ take size lits → reasons' ≡ take size reasons → starts' ≡ take level starts → IsTrail vars' cs lits' reasons' starts'
  back_by level size is l r s = changed vars vars' cs (take size lits) lits' (take size reasons) reasons' (take level starts) starts' same l r s (levels_back vars cs lits reasons starts t level size is)

  pub decision_by : (lit : ℤ) → IsLiteral lit → nat_abs lit ≤ vars → is_in lits lit ≡ false → is_in lits (neg_ℤ lit) ≡ false
      → lits' ≡ lits ++ lit ∷ [] → reasons' ≡ reasons ++ None ∷ [] → starts' ≡ starts ++ length lits ∷ [] → IsTrail vars' cs lits' reasons' starts'
  decision_by lit literal small unset unset_negated l r s = changed vars vars' cs (lits ++ lit ∷ []) lits' (reasons ++ None ∷ []) reasons' (starts ++ length lits ∷ []) starts' same l r s
      (decision_more vars cs lits reasons starts t lit literal small unset unset_negated)

  pub implied_by : {A E : Type 0} (r : Result A E) (lit : ℤ) (number : ℕ) → is_in lits lit ≡ false → is_in lits (neg_ℤ lit) ≡ false → IsReason cs lits lit number → OnOk r (IsLiteral lit)
      → OnOk r (lits' ≡ lits ++ lit ∷ []) → OnOk r (reasons' ≡ reasons ++ Some number ∷ []) → OnErr r (lits' ≡ lits) → OnErr r (reasons' ≡ reasons) → IsTrail vars' cs lits' reasons' starts
  implied_by (Ok x) lit number unset unset_negated reason literal l why l_same why_same =
      changed vars vars' cs (lits ++ lit ∷ []) lits' (reasons ++ Some number ∷ []) reasons' starts starts same l why refl
      (implied_more vars cs lits reasons starts t lit number literal (reason_small vars cs lits lit number t.within reason) unset unset_negated reason)
  implied_by (Err e) lit number unset unset_negated reason literal l why l_same why_same = changed vars vars' cs lits lits' reasons reasons' starts starts same l_same why_same refl t
