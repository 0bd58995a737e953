-- What watches keep, where the trail grows or is taken back.
use Rattle.std.proofs.Common.{◌≡◌, ◌≢◌, ℕ, ◌+◌, ◌<◌, ◌≤◌, ◌⊎◌, inl, inr, ℤ, neg_ℤ, true, false, Option, Some, None, List, [], ◌∷◌, ◌++◌, length, take, refl, sym, ap, ◌∙◌, subst, arith}
use Rattle.std.specs.List.{Contains}
use Rattle.std.proofs.Math.IntN.{neg_ℤ-neg_ℤ}
use Rattle.std.proofs.lemmas.Bool.{cases_lt}
use Rattle.std.proofs.lemmas.List.{take_all, take-append-le, length_push, get_or_past, get_or_default}
use Rattle.std.proofs.lemmas.List.Elements.{All-contains}
use Rattle.clause_base.specs.Literals.{is_in, lit_at}
use Rattle.clause_base.specs.Novelty.{IsTautology}
use Rattle.clause_base.specs.Teaching.{IsConsistent, IsPropagated}
use Rattle.clause_base.specs.Plain.{IsOnce}
use Rattle.clause_base.proofs.LiteralLemmas.{by_test, no_both, in_contains}
use Rattle.search_trail.specs.Trails.{Search, start_at, front, front_size, with_implied}
use Rattle.search_trail.proofs.Members.{in_from, in_taken, in_further, in_pushed, take_at, at_take, lit_new}
use Rattle.clause_watches.specs.Listing.{IsOther}
use Rattle.clause_watches.specs.Watching.{IsBacked, IsGuarded, IsWatched}

pub turned : (s : Search) (head : ℕ) (clause : List ℤ) (a b : ℤ) → IsGuarded s head clause a b → IsGuarded s head clause b a
turned s head clause a b g = record { first = g.second; second = g.first; differ = λ same. g.differ (sym same); first_backed = g.second_backed; second_backed = g.first_backed }

pub guard_of : (s : Search) (head : ℕ) (clause : List ℤ) (pair : Option (ℤ × ℤ)) (gone other : ℤ) → IsOther pair gone other → IsWatched s head clause pair → IsGuarded s head clause gone other
guard_of s head clause pair gone other (inl is) kept = subst (IsWatched s head clause) is kept
guard_of s head clause pair gone other (inr is) kept = turned s head clause other gone (subst (IsWatched s head clause) is kept)

pub kept_of : (s : Search) (head : ℕ) (clause : List ℤ) (pair : Option (ℤ × ℤ)) (gone other : ℤ) → IsOther pair gone other → IsGuarded s head clause gone other → IsWatched s head clause pair
kept_of s head clause pair gone other (inl is) g = subst (IsWatched s head clause) (sym is) g
kept_of s head clause pair gone other (inr is) g = subst (IsWatched s head clause) (sym is) (turned s head clause gone other g)

-- ---- fewer literals gone through

backed_lower : (s : Search) (low high : ℕ) (a b : ℤ) → low ≤ high → IsBacked s high a b → IsBacked s low a b
backed_lower s low high a b le is = record { backed = λ gone. is.backed (in_further s.lits low high (neg_ℤ a) le gone) }

pub kept_lower : (s : Search) (low high : ℕ) (clause : List ℤ) (pair : Option (ℤ × ℤ)) → low ≤ high → IsWatched s high clause pair → IsWatched s low clause pair
kept_lower s low high clause None le kept = kept
kept_lower s low high clause (Some (a, b)) le kept = record {
  first = kept.first;
  second = kept.second;
  differ = kept.differ;
  first_backed = backed_lower s low high a b le kept.first_backed;
  second_backed = backed_lower s low high b a le kept.second_backed;
}

-- ---- the literals of a level

pub by_level : {P : Type 0} (s : Search) (level : ℕ) → (level < length s.starts → front_size s level ≡ start_at s.starts level → P) → (length s.starts ≤ level → front s level ≡ s.lits → P) → P
by_level s level low high = elim (cases_lt level (length s.starts)) [
  | inl less ↦ low less (get_or_default s.starts level (length s.lits) 0 less)
  | inr more ↦ high more (ap (λ n. take n s.lits) (get_or_past s.starts level (length s.lits) more) ∙ take_all (length s.lits) s.lits (omega arith))
]

pub top_front : (s : Search) → front s (length s.starts) ≡ s.lits
top_front s = by_level s (length s.starts) (λ less size. absurd (omega (arith, less))) (λ more is. is)

module _ (s : Search) (once : IsOnce s.lits) (head : ℕ) (levels : (j : ℕ) → j < length s.starts → start_at s.starts j ≤ head) where
  both : {P : Type 0} (l : ℤ) → is_in s.lits l ≡ true → is_in s.lits (neg_ℤ l) ≡ true → P
  both l is back = absurd (once.apart.apart l (in_contains s.lits l is) (in_contains s.lits (neg_ℤ l) back))

  -- what was gone through, and is backed, has the other literal on the trail
  pub on_trail : (a b : ℤ) → IsBacked s head a b → is_in (take head s.lits) (neg_ℤ a) ≡ true → is_in s.lits b ≡ true
  on_trail a b is gone = subst (λ ls. is_in ls b ≡ true) (top_front s)
      (is.backed gone (length s.starts) (subst (λ ls. is_in ls (neg_ℤ a) ≡ true) (sym (top_front s)) (in_taken s.lits head (neg_ℤ a) gone)))

  -- ---- one literal more is gone through

  module _ (gone : ℤ) (inside : head < length s.lits) (here : neg_ℤ gone ≡ lit_at s.lits head) where
    gone_false : is_in s.lits (neg_ℤ gone) ≡ true
    gone_false = in_from s.lits (neg_ℤ gone) head inside (sym here)

    same_lit : (a : ℤ) → neg_ℤ a ≡ neg_ℤ gone → a ≡ gone
    same_lit a same = sym (neg_ℤ-neg_ℤ a) ∙ ap (λ z. neg_ℤ z) same ∙ neg_ℤ-neg_ℤ gone

    before : (a : ℤ) → a ≢ gone → is_in (take (head + 1) s.lits) (neg_ℤ a) ≡ true → is_in (take head s.lits) (neg_ℤ a) ≡ true
    before a other is = let at = take_at s.lits (head + 1) (neg_ℤ a) is in elim (cases_lt at.place head) [
      | inl less ↦ at_take s.lits head (neg_ℤ a) at.place less at.inside at.here
      | inr more ↦ absurd (other (same_lit a (sym at.here ∙ ap (λ p. lit_at s.lits p) (omega (arith, more, at.low)) ∙ sym here)))
    ]

    pub backed_next : (a b : ℤ) → a ≢ gone → IsBacked s head a b → IsBacked s (head + 1) a b
    backed_next a b other is = record { backed = λ passed. is.backed (before a other passed) }

    -- the literal at the head is on the current level
    pub backed_here : (b : ℤ) → is_in s.lits b ≡ true → IsBacked s (head + 1) gone b
    backed_here b true_ = record {
      backed = λ passed level on. by_level s level
          (λ less size. let at = take_at s.lits (front_size s level) (neg_ℤ gone) on in
          let same = once.once at.place head at.inside inside (at.here ∙ here) in
          absurd (omega (arith, same, at.low, size, levels level less)))
          (λ more is. subst (λ ls. is_in ls b ≡ true) (sym is) true_);
    }

    backed_never : (a b : ℤ) → is_in s.lits (neg_ℤ a) ≡ false → IsBacked s (head + 1) a b
    backed_never a b standing = record { backed = λ passed. no_both (in_taken s.lits (head + 1) (neg_ℤ a) passed) standing }

    -- the other literal of a clause that was watched at the one that is gone
    other_backed : (a b : ℤ) → a ≢ gone → IsBacked s head a gone → IsBacked s (head + 1) a b
    other_backed a b other is = record { backed = λ passed. both gone (on_trail a gone is (before a other passed)) gone_false }

    pub kept_apart : (clause : List ℤ) (a b : ℤ) → a ≢ gone → b ≢ gone → IsGuarded s head clause a b → IsGuarded s (head + 1) clause a b
    kept_apart clause a b a_other b_other g = record {
      first = g.first;
      second = g.second;
      differ = g.differ;
      first_backed = backed_next a b a_other g.first_backed;
      second_backed = backed_next b a b_other g.second_backed;
    }

    away : (clause : List ℤ) (other : ℤ) → IsGuarded s head clause gone other → other ≢ gone
    away clause other g same = g.differ (sym same)

    pub kept_true : (clause : List ℤ) (other : ℤ) → IsGuarded s head clause gone other → is_in s.lits other ≡ true → IsGuarded s (head + 1) clause gone other
    kept_true clause other g true_ = record {
      first = g.first;
      second = g.second;
      differ = g.differ;
      first_backed = backed_here other true_;
      second_backed = backed_next other gone (away clause other g) g.second_backed;
    }

    pub kept_moved : (clause : List ℤ) (other to : ℤ) → IsGuarded s head clause gone other → Contains clause to → to ≢ other → is_in s.lits (neg_ℤ to) ≡ false → IsGuarded s (head + 1) clause to other
    kept_moved clause other to g there differ standing = record {
      first = there;
      second = g.second;
      differ = differ;
      first_backed = backed_never to other standing;
      second_backed = other_backed other to (away clause other g) g.second_backed;
    }

    pub moved_apart : (to : ℤ) → is_in s.lits (neg_ℤ to) ≡ false → to ≢ gone
    moved_apart to standing same = no_both (subst (λ z. is_in s.lits (neg_ℤ z) ≡ true) (sym same) gone_false) standing

  -- ---- a literal joins the current level

  module _ (lit : ℤ) (number : ℕ) (within : head ≤ length s.lits) where
    abbrev s' : Search
    s' = with_implied s lit number

    low_same : (level : ℕ) → level < length s.starts → front s' level ≡ front s level
    low_same level less =
        ap (λ n. take n (s.lits ++ lit ∷ [])) (get_or_default s.starts level (length (s.lits ++ lit ∷ [])) (length s.lits) less)
        ∙ take-append-le (front_size s level) s.lits (lit ∷ []) (omega (arith, get_or_default s.starts level (length s.lits) 0 less, levels level less, within))

    high_same : (level : ℕ) → length s.starts ≤ level → front s' level ≡ s.lits ++ lit ∷ []
    high_same level more = by_level s' level (λ less size. absurd (omega (arith, less, more))) (λ m is. is)

    pub in_front : (level : ℕ) (l : ℤ) → is_in (front s level) l ≡ true → is_in (front s' level) l ≡ true
    in_front level l is = by_level s level
        (λ less size. subst (λ ls. is_in ls l ≡ true) (sym (low_same level less)) is)
        (λ more all. subst (λ ls. is_in ls l ≡ true) (sym (high_same level more)) (in_pushed s.lits lit l (subst (λ ls. is_in ls l ≡ true) all is)))

    passed_same : (size : ℕ) → size ≤ length s.lits → take size s'.lits ≡ take size s.lits
    passed_same size le = take-append-le size s.lits (lit ∷ []) le

  pub backed_implied : (lit : ℤ) (number passed : ℕ) (a b : ℤ) → head ≤ passed → passed ≤ length s.lits → (is_in (take passed s.lits) (neg_ℤ a) ≡ true → is_in s.lits b ≡ true) → IsBacked s passed a b → IsBacked (with_implied s lit number) passed a b
  backed_implied lit number passed a b low within on is = record {
    backed = λ gone level up.
        let was : is_in (take passed s.lits) (neg_ℤ a) ≡ true = subst (λ ls. is_in ls (neg_ℤ a) ≡ true) (passed_same lit number (omega (arith, low, within)) passed within) gone in
        by_level s level
        (λ less size. in_front lit number (omega (arith, low, within)) level b (is.backed was level (subst (λ ls. is_in ls (neg_ℤ a) ≡ true) (low_same lit number (omega (arith, low, within)) level less) up)))
        (λ more all. subst (λ ls. is_in ls b ≡ true) (sym (high_same lit number (omega (arith, low, within)) level more)) (in_pushed s.lits lit b (on was)));
  }

  -- the clause left this literal alone, and it joins the current level
  module _ (gone other : ℤ) (number : ℕ) (inside : head < length s.lits) (here : neg_ℤ gone ≡ lit_at s.lits head) where
    implied_here : IsBacked (with_implied s other number) (head + 1) gone other
    implied_here = record {
      backed = λ passed level on. by_level s level
          (λ less size. let at = take_at s.lits (front_size s level) (neg_ℤ gone) (subst (λ ls. is_in ls (neg_ℤ gone) ≡ true) (low_same other number (omega (arith, inside)) level less) on) in
          let same = once.once at.place head at.inside inside (at.here ∙ here) in
          absurd (omega (arith, same, at.low, size, levels level less)))
          (λ more all. subst (λ ls. is_in ls other ≡ true) (sym (high_same other number (omega (arith, inside)) level more))
          (in_from (s.lits ++ other ∷ []) other (length s.lits) (omega (arith, length_push s.lits other)) (lit_new s.lits other (length s.lits) refl)));
    }

    pub guard_implied : (clause : List ℤ) → IsGuarded s head clause gone other → is_in s.lits (neg_ℤ other) ≡ false → IsGuarded (with_implied s other number) (head + 1) clause gone other
    guard_implied clause g standing = record {
      first = g.first;
      second = g.second;
      differ = g.differ;
      first_backed = implied_here;
      second_backed = record {
        backed = λ passed. no_both
            (in_taken s.lits (head + 1) (neg_ℤ other) (subst (λ ls. is_in ls (neg_ℤ other) ≡ true) (passed_same other number (omega (arith, inside)) (head + 1) (omega (arith, inside))) passed)) standing;
      };
    }

  pub kept_implied : (lit : ℤ) (number : ℕ) (clause : List ℤ) (pair : Option (ℤ × ℤ)) → head ≤ length s.lits → IsWatched s head clause pair → IsWatched (with_implied s lit number) head clause pair
  kept_implied lit number clause None within (inl twice) = inl twice
  kept_implied lit number clause None within (inr fixed) = let (k, m, lt, at, is) = fixed in inr (k, m, lt, at, in_front lit number within 0 m is)
  kept_implied lit number clause (Some (a, b)) within g = record {
    first = g.first;
    second = g.second;
    differ = g.differ;
    first_backed = backed_implied lit number head a b (omega arith) within (on_trail a b g.first_backed) g.first_backed;
    second_backed = backed_implied lit number head b a (omega arith) within (on_trail b a g.second_backed) g.second_backed;
  }

-- ---- nothing is left to propagate

module _ (s : Search) (once : IsOnce s.lits) (size head : ℕ) (level : ℕ) (size_is : size ≡ front_size s level) (low : size ≤ head) where
  consistent : IsConsistent (is_in (front s level))
  consistent = record {
    apart = λ l is. by_test (is_in (front s level) (neg_ℤ l))
        (λ back. absurd (once.apart.apart l (in_contains s.lits l (in_taken s.lits (front_size s level) l is)) (in_contains s.lits (neg_ℤ l) (in_taken s.lits (front_size s level) (neg_ℤ l) back))))
        (λ none. none);
  }

  clash : {P : Type 0} (l : ℤ) → is_in (front s level) l ≡ true → is_in (front s level) (neg_ℤ l) ≡ true → P
  clash l is back = no_both back (consistent.apart l is)

  other_in : (a b : ℤ) → IsBacked s head a b → is_in (front s level) (neg_ℤ a) ≡ true → is_in (front s level) b ≡ true
  other_in a b is on = is.backed (in_further s.lits (front_size s level) head (neg_ℤ a) (omega (arith, size_is, low)) on) level on

  pub guarded : (clause : List ℤ) (a b : ℤ) → IsGuarded s head clause a b → IsPropagated (is_in (front s level)) clause
  guarded clause a b g = record {
    standing = λ all.
        let na = All-contains (λ m. is_in (front s level) (neg_ℤ m) ≡ true) clause a all g.first in
        let nb = All-contains (λ m. is_in (front s level) (neg_ℤ m) ≡ true) clause b all g.second in
        clash b (other_in a b g.first_backed na) nb;
    unit = λ lit there others unset. elim (All-contains (λ m. (m ≡ lit) ⊎ (is_in (front s level) (neg_ℤ m) ≡ true)) clause a others g.first) [
      | inl same ↦ elim (All-contains (λ m. (m ≡ lit) ⊎ (is_in (front s level) (neg_ℤ m) ≡ true)) clause b others g.second) [
        | inl also ↦ absurd (g.differ (same ∙ sym also))
        | inr nb ↦ subst (λ z. is_in (front s level) z ≡ true) same (other_in b a g.second_backed nb)
      ]
      | inr na ↦ elim (All-contains (λ m. (m ≡ lit) ⊎ (is_in (front s level) (neg_ℤ m) ≡ true)) clause b others g.second) [
        | inl same ↦ subst (λ z. is_in (front s level) z ≡ true) same (other_in a b g.first_backed na)
        | inr nb ↦ clash b (other_in a b g.first_backed na) nb
      ]
    ];
  }

  pub fixed : (clause : List ℤ) (l : ℤ) → Contains clause l → is_in (front s level) l ≡ true → IsPropagated (is_in (front s level)) clause
  fixed clause l has is = record {
    standing = λ all. clash l is (All-contains (λ m. is_in (front s level) (neg_ℤ m) ≡ true) clause l all has);
    unit = λ lit there others unset. elim (All-contains (λ m. (m ≡ lit) ⊎ (is_in (front s level) (neg_ℤ m) ≡ true)) clause l others has) [
      | inl same ↦ subst (λ z. is_in (front s level) z ≡ true) same is
      | inr back ↦ clash l is back
    ];
  }

  pub tautology : (clause : List ℤ) → IsTautology clause → IsPropagated (is_in (front s level)) clause
  tautology clause t = record {
    standing = λ all. clash (neg_ℤ t.lit) (All-contains (λ m. is_in (front s level) (neg_ℤ m) ≡ true) clause t.lit all t.there)
        (All-contains (λ m. is_in (front s level) (neg_ℤ m) ≡ true) clause (neg_ℤ t.lit) all t.back);
    unit = λ lit there others unset. elim (All-contains (λ m. (m ≡ lit) ⊎ (is_in (front s level) (neg_ℤ m) ≡ true)) clause t.lit others t.there) [
      | inl same ↦ elim (All-contains (λ m. (m ≡ lit) ⊎ (is_in (front s level) (neg_ℤ m) ≡ true)) clause (neg_ℤ t.lit) others t.back) [
        | inl also ↦ absurd (t.differ (same ∙ sym also))
        | inr back ↦ subst (λ z. is_in (front s level) z ≡ true) (neg_ℤ-neg_ℤ t.lit ∙ same) back
      ]
      | inr down ↦ elim (All-contains (λ m. (m ≡ lit) ⊎ (is_in (front s level) (neg_ℤ m) ≡ true)) clause (neg_ℤ t.lit) others t.back) [
        | inl same ↦ subst (λ z. is_in (front s level) z ≡ true) same down
        | inr back ↦ clash (neg_ℤ t.lit) down back
      ]
    ];
  }
