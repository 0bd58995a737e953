-- The list of a literal that has become false is gone through, one clause after the other.
use Rattle.std.proofs.Common.{◌≡◌, ◌≢◌, ℕ, ◌+◌, ◌-◌, ◌<◌, ◌≤◌, ◌⊎◌, inl, inr, ℤ, pos, neg_ℤ, true, Option, Some, None, List, [], ◌∷◌, length, take, set, get_or, refl, sym, ap, ◌∙◌, subst, arith}
use Rattle.std.specs.List.{Contains}
use Rattle.std.proofs.Math.IntN.{neg_ℤ-neg_ℤ}
use Rattle.std.proofs.lemmas.Bool.{cases_eq}
use Rattle.std.proofs.lemmas.List.{take_all, take_more, take-take, get_or_default, take-append-le, length_push, length-set, get_or-set_same, get_or-set_other}
use Rattle.std.proofs.lemmas.List.Elements.{Contains-push_cases}
use Rattle.clause_base.specs.Literals.{is_in, lit_at}
use Rattle.clause_base.specs.Plain.{IsOnce}
use Rattle.clause_base.proofs.LiteralLemmas.{by_lit}
use Rattle.refutation_check.specs.Following.{IsNumber, numbered}
use Rattle.search_trail.specs.Trails.{Search, IsReason, with_implied}
use Rattle.search_trail.proofs.Members.{lit_before}
use Rattle.clause_watches.specs.Listing.{Listed, AreListed, pair_of, list_of, IsOther}
use Rattle.clause_watches.specs.Watching.{IsGuarded, IsWatched, AreWatched, HasGrown}
use Rattle.clause_watches.specs.Visiting.{IsStill, IsReplacement, IsSole, IsVisit, watched_at}
use Rattle.clause_watches.proofs.Fronts.{turned, guard_of, kept_of, kept_lower, kept_apart, kept_true, kept_moved, moved_apart, kept_implied, guard_implied}

pub grown_same : (s : Search) → HasGrown s s
grown_same s = record { vars = refl; clauses = refl; starts = refl; lits = take_all (length s.lits) s.lits (omega arith); more = omega arith }

pub grown_implied : (old s : Search) (lit : ℤ) (number : ℕ) → HasGrown old s → HasGrown old (with_implied s lit number)
grown_implied old s lit number g = record {
  vars = g.vars;
  clauses = g.clauses;
  starts = g.starts;
  lits = take-append-le (length old.lits) s.lits (lit ∷ []) g.more ∙ g.lits;
  more = omega (arith, g.more, length_push s.lits lit);
}

pub grown_twice : (a b c : Search) → HasGrown a b → HasGrown b c → HasGrown a c
grown_twice a b c ab bc = record {
  vars = bc.vars ∙ ab.vars;
  clauses = bc.clauses ∙ ab.clauses;
  starts = bc.starts ∙ ab.starts;
  lits = sym (take-take (length a.lits) (length b.lits) c.lits ab.more) ∙ ap (λ ls. take (length a.lits) ls) bc.lits ∙ ab.lits;
  more = omega (arith, ab.more, bc.more);
}

pub begins : (s : Search) (w : Listed) (head : ℕ) (gone : ℤ) (index : ℕ) → AreWatched s (watched_at w head) → IsOnce s.lits → head < length s.lits → neg_ℤ gone ≡ lit_at s.lits head → AreListed w.pairs w.lists
    → index ≡ length (list_of w.lists gone) → IsVisit s w head gone index
begins s w head gone index k once inside here listed is = record {
  vars = k.vars;
  paired = k.paired;
  inside = inside;
  here = here;
  levels = k.levels;
  kept = k.kept;
  next = λ n number. by_pair n number (pair_of w.pairs n) refl (k.kept n number);
  bound = omega (arith, is);
} where
  waits : (n : ℕ) → Contains (list_of w.lists gone) n → Contains (take index (list_of w.lists gone)) n
  waits n has = subst (λ xs. Contains xs n) (sym (take_all index (list_of w.lists gone) (omega (arith, is)))) has

  by_pair : (n : ℕ) → IsNumber s.clauses n → (pair : Option (ℤ × ℤ)) → pair ≡ pair_of w.pairs n → IsWatched s head (numbered s.clauses n) pair
      → IsWatched s (head + 1) (numbered s.clauses n) (pair_of w.pairs n) ⊎ Contains (take index (list_of w.lists gone)) n
  by_pair n number None at kept = inl (subst (IsWatched s (head + 1) (numbered s.clauses n)) at kept)
  by_pair n number (Some (a, b)) at kept = by_lit a gone
      (λ same. inr (waits n (subst (λ z. Contains (list_of w.lists z) n) same (listed.first n a b number.some (sym at)))))
      (λ a_other. by_lit b gone
      (λ same. inr (waits n (subst (λ z. Contains (list_of w.lists z) n) same (listed.second n a b number.some (sym at)))))
      (λ b_other. inl (subst (IsWatched s (head + 1) (numbered s.clauses n)) at (kept_apart s once head k.levels gone inside here (numbered s.clauses n) a b a_other b_other kept))))

pub visit_kept : (s : Search) (w : Listed) (head : ℕ) (gone : ℤ) (index : ℕ) → IsVisit s w head gone index → AreWatched s (watched_at w head)
visit_kept s w head gone index v = record { vars = v.vars; paired = v.paired; gone = omega (arith, v.inside); levels = v.levels; kept = v.kept }

pub visit_ends : (s : Search) (w : Listed) (head : ℕ) (gone : ℤ) (index : ℕ) → index ≤ 0 → IsVisit s w head gone index → AreWatched s (watched_at w (head + 1))
visit_ends s w head gone index none v = record {
  vars = v.vars;
  paired = v.paired;
  gone = omega (arith, v.inside);
  levels = λ j lt. omega (arith, v.levels j lt);
  kept = λ n number. elim (v.next n number) [
    | inl kept ↦ kept
    | inr waits ↦ absurd (nothing n (subst (λ i. Contains (take i (list_of w.lists gone)) n) zero_is waits))
  ];
} where
  zero_is : index ≡ 0
  zero_is = omega (arith, none)

  nothing : (n : ℕ) → Contains (take 0 (list_of w.lists gone)) n → ⊥
  nothing n has = let (k, lt, at) = has in omega (arith, lt)

module _ (s : Search) (w : Listed) (head : ℕ) (gone : ℤ) (index number : ℕ) (v : IsVisit s w head gone (index + 1)) (at : number ≡ get_or (list_of w.lists gone) index 0) where
  inside_list : index < length (list_of w.lists gone)
  inside_list = omega (arith, v.bound)

  by_wait : {P : Type 0} (n : ℕ) → Contains (take (index + 1) (list_of w.lists gone)) n → (n ≡ number → P) → (Contains (take index (list_of w.lists gone)) n → P) → P
  by_wait n has here before =
      elim (Contains-push_cases (take index (list_of w.lists gone)) (get_or (list_of w.lists gone) index 0) n (subst (λ xs. Contains xs n) (take_more (list_of w.lists gone) index 0 inside_list) has)) [
        | inl old ↦ before old
        | inr same ↦ here (sym same ∙ sym at)
      ]

  pub still : (IsNumber s.clauses number → IsWatched s (head + 1) (numbered s.clauses number) (pair_of w.pairs number)) → IsVisit s w head gone index
  still kept = record {
    vars = v.vars;
    paired = v.paired;
    inside = v.inside;
    here = v.here;
    levels = v.levels;
    kept = v.kept;
    next = λ n known. elim (v.next n known) [
      | inl old ↦ inl old
      | inr waits ↦ by_wait n waits
          (λ same. inl (subst (λ m. IsWatched s (head + 1) (numbered s.clauses m) (pair_of w.pairs m)) (sym same) (kept (subst (IsNumber s.clauses) same known))))
          (λ before. inr before)
    ];
    bound = omega (arith, v.bound);
  }

  pub still_none : pair_of w.pairs number ≡ None → IsVisit s w head gone index
  still_none none = still (λ known. subst (IsWatched s (head + 1) (numbered s.clauses number)) (sym none) (subst (IsWatched s head (numbered s.clauses number)) none (v.kept number known)))

  module _ (once : IsOnce s.lits) where
    pub still_pair : (pair : ℤ × ℤ) → pair_of w.pairs number ≡ Some pair → IsStill s pair gone → IsVisit s w head gone index
    still_pair (a, b) is stays = still (λ known. subst (IsWatched s (head + 1) (numbered s.clauses number)) (sym is) (by_still known stays)) where
      guard : IsNumber s.clauses number → IsGuarded s head (numbered s.clauses number) a b
      guard known = subst (IsWatched s head (numbered s.clauses number)) is (v.kept number known)

      by_still : IsNumber s.clauses number → ((a ≢ gone) × (b ≢ gone)) ⊎ ((a ≡ gone) × (is_in s.lits b ≡ true)) ⊎ ((b ≡ gone) × (is_in s.lits a ≡ true)) → IsGuarded s (head + 1) (numbered s.clauses number) a b
      by_still known (inl apart) = kept_apart s once head v.levels gone v.inside v.here (numbered s.clauses number) a b apart.0 apart.1 (guard known)
      by_still known (inr (inl true_)) = subst (λ z. IsGuarded s (head + 1) (numbered s.clauses number) z b) (sym true_.0)
          (kept_true s once head v.levels gone v.inside v.here (numbered s.clauses number) b (subst (λ z. IsGuarded s head (numbered s.clauses number) z b) true_.0 (guard known)) true_.1)
      by_still known (inr (inr true_)) = turned s (head + 1) (numbered s.clauses number) b a (subst (λ z. IsGuarded s (head + 1) (numbered s.clauses number) z a) (sym true_.0)
          (kept_true s once head v.levels gone v.inside v.here (numbered s.clauses number) a
          (subst (λ z. IsGuarded s head (numbered s.clauses number) z a) true_.0 (turned s head (numbered s.clauses number) a b (guard known))) true_.1))

    module _ (known : IsNumber s.clauses number) (other : ℤ) (watched : IsOther (pair_of w.pairs number) gone other) where
      pub guard_here : IsGuarded s head (numbered s.clauses number) gone other
      guard_here = guard_of s head (numbered s.clauses number) (pair_of w.pairs number) gone other watched (v.kept number known)

      pub moves_apart : (to : ℤ) → IsReplacement s (numbered s.clauses number) other to → to ≢ gone
      moves_apart to is = moved_apart s once head v.levels gone v.inside v.here to is.standing

      pub moves : (to : ℤ) (after : Listed) → IsReplacement s (numbered s.clauses number) other to → after.vars ≡ w.vars → after.pairs ≡ set w.pairs (number - 1) (Some (to, other))
          → take index (list_of after.lists gone) ≡ take index (list_of w.lists gone) → length (list_of after.lists gone) + 1 ≡ length (list_of w.lists gone) → IsVisit s after head gone index
      moves to after is vars pairs rest count = record {
        vars = vars ∙ v.vars;
        paired = ap length pairs ∙ length-set w.pairs (number - 1) (Some (to, other)) ∙ v.paired;
        inside = v.inside;
        here = v.here;
        levels = v.levels;
        kept = λ n n_known. by_number n n_known (λ pair. IsWatched s head (numbered s.clauses n) pair)
            (λ same. subst (λ m. IsGuarded s head (numbered s.clauses m) to other) (sym same) (kept_lower s head (head + 1) (numbered s.clauses number) (Some (to, other)) (omega arith) moved))
            (v.kept n n_known);
        next = λ n n_known. elim (cases_eq n number) [
          | inl same ↦ inl (subst (λ m. IsWatched s (head + 1) (numbered s.clauses m) (pair_of after.pairs m)) (sym same) (subst (IsWatched s (head + 1) (numbered s.clauses number)) (sym new_pair) moved))
          | inr unlike ↦ elim (v.next n n_known) [
            | inl old ↦ inl (subst (IsWatched s (head + 1) (numbered s.clauses n)) (sym (old_pair n n_known unlike)) old)
            | inr waits ↦ by_wait n waits (λ same. absurd (unlike same)) (λ before. inr (subst (λ xs. Contains xs n) (sym rest) before))
          ]
        ];
        bound = omega (arith, v.bound, count);
      } where
        moved : IsGuarded s (head + 1) (numbered s.clauses number) to other
        moved = kept_moved s once head v.levels gone v.inside v.here (numbered s.clauses number) other to guard_here is.there is.differ is.standing

        new_pair : pair_of after.pairs number ≡ Some (to, other)
        new_pair = ap (λ ps. pair_of ps number) pairs ∙ get_or-set_same w.pairs (number - 1) (Some (to, other)) None (omega (arith, known.some, known.most, v.paired))

        old_pair : (n : ℕ) → IsNumber s.clauses n → n ≢ number → pair_of after.pairs n ≡ pair_of w.pairs n
        old_pair n n_known unlike = ap (λ ps. pair_of ps n) pairs ∙ get_or-set_other w.pairs (number - 1) (n - 1) (Some (to, other)) None (λ same. unlike (equal n n_known same)) where
          equal : (n : ℕ) → IsNumber s.clauses n → n - 1 ≡ number - 1 → n ≡ number
          equal n n_known same = omega (arith, n_known.some, known.some, same)

        by_number : (n : ℕ) → IsNumber s.clauses n → (P : Option (ℤ × ℤ) → Type 0) → (n ≡ number → P (Some (to, other))) → P (pair_of w.pairs n) → P (pair_of after.pairs n)
        by_number n n_known P here old = elim (cases_eq n number) [
          | inl same ↦ subst P (sym (ap (λ m. pair_of after.pairs m) same ∙ new_pair)) (here same)
          | inr unlike ↦ subst P (sym (old_pair n n_known unlike)) old
        ]

      pub reason : IsSole s (numbered s.clauses number) other → IsReason s.clauses s.lits other number
      reason is = record { known = known; there = guard_here.second; others = is.others }

      pub implies : IsSole s (numbered s.clauses number) other → IsVisit (with_implied s other number) w head gone index
      implies is = record {
        vars = v.vars;
        paired = v.paired;
        inside = omega (arith, v.inside, length_push s.lits other);
        here = v.here ∙ sym (lit_before s.lits other head v.inside);
        levels = v.levels;
        kept = λ n n_known. kept_implied s once head v.levels other number (numbered s.clauses n) (pair_of w.pairs n) (omega (arith, v.inside)) (v.kept n n_known);
        next = λ n n_known. elim (v.next n n_known) [
          | inl old ↦ inl (kept_implied s once (head + 1) (λ j lt. omega (arith, v.levels j lt)) other number (numbered s.clauses n) (pair_of w.pairs n) (omega (arith, v.inside)) old)
          | inr waits ↦ by_wait n waits
              (λ same. inl (subst (λ m. IsWatched (with_implied s other number) (head + 1) (numbered s.clauses m) (pair_of w.pairs m)) (sym same)
              (kept_of (with_implied s other number) (head + 1) (numbered s.clauses number) (pair_of w.pairs number) gone other watched
              (guard_implied s once head v.levels gone other number v.inside v.here (numbered s.clauses number) guard_here is.standing))))
              (λ before. inr before)
        ];
        bound = omega (arith, v.bound);
      }

pub head_here : (lits now : List ℤ) (head : ℕ) (lit gone : ℤ) → now ≡ lits → head < length lits → lit ≡ get_or now head lit → gone ≡ neg_ℤ lit → neg_ℤ gone ≡ lit_at lits head
head_here lits now head lit gone same lt at turned_ = ap (λ z. neg_ℤ z) turned_ ∙ neg_ℤ-neg_ℤ lit ∙ at ∙ ap (λ ls. get_or ls head lit) same ∙ get_or_default lits head lit (pos 0) lt
