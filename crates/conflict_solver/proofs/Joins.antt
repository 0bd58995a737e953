-- What is kept where a clause joins.
use Rattle.std.proofs.Common.{◌≡◌, ◌≢◌, ℕ, ◌+◌, ◌-◌, ◌<◌, ◌≤◌, inl, inr, ℤ, pos, neg_ℤ, nat_abs, Bool, true, false, Option, Some, None, Result, Ok, Err, OnOk, IfSome, List, [], ◌∷◌, ◌++◌, length, take, get_or, refl, sym, ap, ◌∙◌, subst, arith}
use Rattle.std.specs.List.{All, Contains}
use Rattle.std.proofs.lemmas.Bool.{cases_lt}
use Rattle.std.proofs.lemmas.List.Elements.{Contains-get_or}
use Rattle.std.proofs.lemmas.List.{take_all, take-take, take-append-le, length_push, length-take, get_or_default, get_or-take, get_or_past, get_or_push, get_or_append_left}
use Rattle.std.proofs.lemmas.Int.{ints}
use Rattle.clause_base.specs.Literals.{is_in, lit_at}
use Rattle.clause_base.specs.Formulas.{IsClauseWithin}
use Rattle.clause_base.specs.Teaching.{AllButNegated}
use Rattle.clause_base.proofs.LiteralLemmas.{no_both, in_contains}
use Rattle.refutation_check.specs.Following.{IsNumber, numbered}
use Rattle.search_trail.specs.Trails.{Search, IsSearch, IsReason, start_at, front, front_size, with_clause, with_implied, back_at}
use Rattle.search_trail.specs.Learning.{IsLearnt, IsAsserting, IsJump}
use Rattle.search_trail.proofs.Members.{in_from, in_taken, in_pushed, by_push, lit_before, lit_new, in_at}
use Rattle.search_trail.proofs.Growing.{size_inside, levels_back}
use Rattle.search_trail.proofs.Jumps.{unset_negated}
use Rattle.clause_watches.specs.Listing.{pair_of}
use Rattle.clause_watches.specs.Watching.{Watched, IsBacked, IsGuarded, IsIdle, IsWatched, AreWatched, IsConflict, with_pair}
use Rattle.clause_watches.proofs.Kept.{clause_kept, implied_kept}
use Rattle.conflict_solver.specs.Joining.{ListsOnly, HasJoined, HasGiven, pair_at}

-- ---- clauses that are given

module _ (s : Search) (clause : List ℤ) where
  abbrev number : ℕ
  number = length (s.clauses ++ clause ∷ [])

  last_number : IsNumber (s.clauses ++ clause ∷ []) number
  last_number = record { some = omega (arith, length_push s.clauses clause); most = omega arith }

  last_is : numbered (s.clauses ++ clause ∷ []) number ≡ clause
  last_is = get_or_push s.clauses clause [] (number - 1) (omega (arith, length_push s.clauses clause))

  was_is : (n : ℕ) → IsNumber s.clauses n → numbered (s.clauses ++ clause ∷ []) n ≡ numbered s.clauses n
  was_is n known = get_or_append_left s.clauses (clause ∷ []) [] (n - 1) (omega (arith, known.some, known.most))

  joined : HasJoined s (with_clause s clause) clause
  joined = record { vars = refl; clauses = refl }

  module _ (ground : s.starts ≡ []) (w : Watched) (head : w.head ≡ 0) where
    found_again : (n : ℕ) → IsConflict s n → HasGiven s (with_clause s clause) w clause (Some n)
    found_again n conflict = record {
      joined = joined;
      ground = ground;
      head = head;
      kept = tt;
      failed = record {
        known = record { some = conflict.known.some; most = omega (arith, conflict.known.most, length_push s.clauses clause) };
        failed = subst (All (λ l. is_in s.lits (neg_ℤ l) ≡ true)) (sym (was_is n conflict.known)) conflict.failed;
      };
    }

    found_here : All (λ l. is_in s.lits (neg_ℤ l) ≡ true) clause → HasGiven s (with_clause s clause) w clause (Some number)
    found_here failed = record {
      joined = joined;
      ground = ground;
      head = head;
      kept = tt;
      failed = record { known = last_number; failed = subst (All (λ l. is_in s.lits (neg_ℤ l) ≡ true)) (sym last_is) failed };
    }

    watched_at : (pair : Option (ℤ × ℤ)) → AreWatched s w → IsWatched s w.head clause pair → HasGiven s (with_clause s clause) (with_pair w pair) clause None
    watched_at pair kept is = record {
      joined = joined;
      ground = ground;
      head = head;
      kept = clause_kept s w clause pair kept is;
      failed = tt;
    }

-- the front of level 0, where no level begins
ground_front : (s : Search) → s.starts ≡ [] → front s 0 ≡ s.lits
ground_front s ground = ap (λ starts. take (get_or starts 0 (length s.lits)) s.lits) ground ∙ take_all (length s.lits) s.lits (omega arith)

idle : (s : Search) (clause : List ℤ) (lit : ℤ) → front s 0 ≡ s.lits → Contains clause lit → is_in s.lits lit ≡ true → IsIdle s clause
idle s clause lit all (j, jlt, at) true_ = inr (j, lit, jlt, at, subst (λ ls. is_in ls lit ≡ true) (sym all) true_)

own : (lits : List ℤ) (lit : ℤ) → is_in (lits ++ lit ∷ []) lit ≡ true
own lits lit = in_from (lits ++ lit ∷ []) lit (length lits) (omega (arith, length_push lits lit)) (lit_new lits lit (length lits) refl)

-- no literal was gone through
ungone : (s : Search) (w : Watched) (a b : ℤ) → w.head ≡ 0 → IsBacked s w.head a b
ungone s w a b head = record { backed = λ passed. no_both (subst (λ n. is_in (take n s.lits) (neg_ℤ a) ≡ true) head passed) refl }

pub found_before : (s t : Search) (w : Watched) (clause : List ℤ) (n : ℕ) (conflict : Option ℕ) → t ≡ with_clause s clause → s.starts ≡ [] → w.head ≡ 0 → conflict ≡ Some n → IfSome conflict (IsConflict s)
    → HasGiven s t w clause (Some n)
found_before s t w clause n conflict is ground head found failed = subst (λ t. HasGiven s t w clause (Some n)) (sym is)
    (found_again s clause ground w head n (subst (λ c. IfSome c (IsConflict s)) found failed))

-- whether a literal was true before the clause joined
pub told : (s t : Search) (clause : List ℤ) (lit same : ℤ) (is_so value : Bool) → t ≡ with_clause s clause → same ≡ lit → is_so ≡ is_in t.lits same → is_so ≡ value → is_in s.lits lit ≡ value
told s t clause lit same is_so value is lit_is tells so = ap (λ t. is_in t.lits lit) (sym is) ∙ ap (λ z. is_in t.lits z) (sym lit_is) ∙ sym tells ∙ so

pub given_false : (s t : Search) (w : Watched) (clause : List ℤ) (n : ℕ) → t ≡ with_clause s clause → s.starts ≡ [] → w.head ≡ 0 → n ≡ length t.clauses
    → All (λ l. is_in s.lits (neg_ℤ l) ≡ true) clause → HasGiven s t w clause (Some n)
given_false s t w clause n is ground head last failed = subst (λ t. HasGiven s t w clause (Some n)) (sym is)
    (subst (λ n. HasGiven s (with_clause s clause) w clause (Some n)) (sym (last ∙ ap (λ t. length t.clauses) is)) (found_here s clause ground w head failed))

pub given_true : (s t : Search) (w x : Watched) (clause : List ℤ) (lit : ℤ) → t ≡ with_clause s clause → x ≡ with_pair w None → s.starts ≡ [] → w.head ≡ 0 → AreWatched s w
    → Contains clause lit → is_in s.lits lit ≡ true → HasGiven s t x clause None
given_true s t w x clause lit is watched ground head kept there true_ = subst (λ t. HasGiven s t x clause None) (sym is) (subst (λ x. HasGiven s (with_clause s clause) x clause None) (sym watched)
    (watched_at s clause ground w head None kept (idle s clause lit (ground_front s ground) there true_)))

-- a literal joins the trail before one is gone through
ground_implied : (s : Search) (w : Watched) (lit : ℤ) (n : ℕ) → s.starts ≡ [] → w.head ≡ 0 → AreWatched s w → AreWatched (with_implied s lit n) w
ground_implied s w lit n ground head k = record {
  vars = k.vars;
  paired = k.paired;
  gone = omega (arith, head);
  levels = k.levels;
  kept = λ number known. more (numbered s.clauses number) (pair_of w.pairs number) (k.kept number known);
} where
  s' : Search
  s' = with_implied s lit n

  more : (clause : List ℤ) (pair : Option (ℤ × ℤ)) → IsWatched s w.head clause pair → IsWatched s' w.head clause pair
  more clause None (inl twice) = inl twice
  more clause None (inr (j, m, jlt, at, is)) = inr (j, m, jlt, at, subst (λ ls. is_in ls m ≡ true) (sym (ground_front s' ground)) (in_pushed s.lits lit m (subst (λ ls. is_in ls m ≡ true) (ground_front s ground) is)))
  more clause (Some (a, b)) g = record { first = g.first; second = g.second; differ = g.differ; first_backed = ungone s' w a b head; second_backed = ungone s' w b a head }

pub given_implied : (s t u : Search) (w x : Watched) (clause : List ℤ) (lit : ℤ) (n : ℕ) → t ≡ with_clause s clause → u ≡ with_implied t lit n → x ≡ with_pair w None
    → s.starts ≡ [] → w.head ≡ 0 → AreWatched s w → Contains clause lit → HasGiven s u x clause None
given_implied s t u w x clause lit n is implied watched ground head kept there =
    subst (λ u. HasGiven s u x clause None) (sym (implied ∙ ap (λ t. with_implied t lit n) is)) (subst (λ x. HasGiven s (with_implied (with_clause s clause) lit n) x clause None) (sym watched) record {
      joined = record { vars = refl; clauses = refl };
      ground = ground;
      head = head;
      kept = clause_kept s' w clause None (ground_implied s w lit n ground head kept) (idle s' clause lit (ground_front s' ground) there (own s.lits lit));
      failed = tt;
    })
  where
    s' : Search
    s' = with_implied s lit n

pub given_pair : (s t : Search) (w x : Watched) (clause : List ℤ) (a b : ℤ) → t ≡ with_clause s clause → x ≡ with_pair w (Some (a, b)) → s.starts ≡ [] → w.head ≡ 0 → AreWatched s w
    → Contains clause a → Contains clause b → a ≢ b → HasGiven s t x clause None
given_pair s t w x clause a b is watched ground head kept first second differ = subst (λ t. HasGiven s t x clause None) (sym is) (subst (λ x. HasGiven s (with_clause s clause) x clause None) (sym watched)
    (watched_at s clause ground w head (Some (a, b)) kept record { first = first; second = second; differ = differ; first_backed = ungone s w a b head; second_backed = ungone s w b a head }))

pub given_empty : (s t : Search) (w : Watched) (clause : List ℤ) (n : ℕ) → t ≡ with_clause s clause → s.starts ≡ [] → w.head ≡ 0 → n ≡ length t.clauses → clause ≡ [] → HasGiven s t w clause (Some n)
given_empty s t w clause n is ground head last empty = given_false s t w clause n is ground head last
    (subst (All (λ l. is_in s.lits (neg_ℤ l) ≡ true)) (sym empty) (λ k d klt. let no' : ⊥ = omega (arith, klt) in absurd no'))

pub sole_false : (s : Search) (clause : List ℤ) (lit : ℤ) → ListsOnly clause lit → is_in s.lits (neg_ℤ lit) ≡ true → All (λ l. is_in s.lits (neg_ℤ l) ≡ true) clause
sole_false s clause lit sole false_ k d klt = subst (λ l. is_in s.lits (neg_ℤ l) ≡ true) (sym (sole k d klt)) false_

pub sole_reason : (s t : Search) (clause : List ℤ) (lit : ℤ) (n : ℕ) → t ≡ with_clause s clause → n ≡ length t.clauses → Contains clause lit → ListsOnly clause lit
    → IsReason t.clauses t.lits lit n
sole_reason s t clause lit n is last there sole = subst (λ t. IsReason t.clauses t.lits lit n) (sym is) (subst (λ n. IsReason (s.clauses ++ clause ∷ []) s.lits lit n) (sym (last ∙ ap (λ t. length t.clauses) is)) record {
  known = last_number s clause;
  there = subst (λ c. Contains c lit) (sym (last_is s clause)) there;
  others = subst (λ c. AllButNegated (is_in s.lits) c lit) (sym (last_is s clause)) (λ k d klt. inl (sole k d klt));
})

-- ---- a clause that is learnt

module _ (s : Search) (clause : List ℤ) (level : ℕ) (t : IsSearch s) (l : IsLearnt s clause) (a : IsAsserting s clause) (j : IsJump s clause level) (above : 0 < length s.starts) where
  abbrev lit : ℤ
  lit = lit_at clause 0

  abbrev size : ℕ
  size = front_size s level

  abbrev s' : Search
  s' = with_implied (back_at s level) lit (length s.clauses + 1)

  pub small : IsClauseWithin s.vars clause
  small k d klt = let (p, plt, at) = in_contains s.lits (neg_ℤ (get_or clause k d)) (l.negated k d klt) in
      omega (arith, ints, t.small p (neg_ℤ (get_or clause k d)) plt, ap (λ z. nat_abs z) at)

  pub out_negated : is_in (front s level) (neg_ℤ lit) ≡ false
  out_negated = unset_negated s clause level t a (j.lower above)

  negated_on : is_in s.lits (neg_ℤ lit) ≡ true
  negated_on = l.negated 0 (pos 0) a.some

  not_own : lit ≡ neg_ℤ lit → ⊥
  not_own same = t.once.apart.apart (neg_ℤ lit) (in_contains s.lits (neg_ℤ lit) negated_on) (subst (λ z. Contains s.lits (neg_ℤ z)) same (in_contains s.lits (neg_ℤ lit) negated_on))

  first_out : is_in (front s level ++ lit ∷ []) (neg_ℤ lit) ≡ true → ⊥
  first_out is = let at = in_at (front s level ++ lit ∷ []) (neg_ℤ lit) is in by_push (front s level) lit at.place at.inside
      (λ less. no_both (in_from (front s level) (neg_ℤ lit) at.place less (sym (lit_before (front s level) lit at.place less) ∙ at.here)) out_negated)
      (λ last. not_own (sym (lit_new (front s level) lit at.place last) ∙ at.here))

  start_low : (k : ℕ) → k < level → start_at s.starts k ≤ size
  start_low k less = omega (arith, t.levels.rising k level less (j.lower above), get_or_default s.starts level (length s.lits) 0 (j.lower above))

  fewer : length (take level s.starts) ≡ level
  fewer = omega (arith, length-take level s.starts, j.lower above)

  low_front : (k : ℕ) → k < level → front s' k ≡ front s k
  low_front k less =
      ap (λ n. take n (front s level ++ lit ∷ [])) (get_or_default (take level s.starts) k (length (front s level ++ lit ∷ [])) 0 (omega (arith, less, fewer)) ∙ get_or-take level s.starts k 0 less)
      ∙ take-append-le (start_at s.starts k) (front s level) (lit ∷ []) (omega (arith, start_low k less, length-take size s.lits, size_inside s.vars s.clauses s.lits s.reasons s.starts t level))
      ∙ take-take (start_at s.starts k) size s.lits (start_low k less)
      ∙ ap (λ n. take n s.lits) (sym (get_or_default s.starts k (length s.lits) 0 (omega (arith, less, j.lower above))))

  high_front : (k : ℕ) → level ≤ k → front s' k ≡ front s level ++ lit ∷ []
  high_front k more = ap (λ n. take n (front s level ++ lit ∷ [])) (get_or_past (take level s.starts) k (length (front s level ++ lit ∷ [])) (omega (arith, more, fewer)))
      ∙ take_all (length (front s level ++ lit ∷ [])) (front s level ++ lit ∷ []) (omega arith)

  guarded : (head : ℕ) (b : ℤ) → 2 ≤ length clause → b ≡ lit_at clause 1 → IsGuarded s' head clause lit b
  guarded head b two is = record {
    first = Contains-get_or clause 0 (pos 0) a.some;
    second = subst (Contains clause) (sym is) (Contains-get_or clause 1 (pos 0) two);
    differ = λ same. let places : 0 ≡ 1 = l.once.once 0 1 a.some two (same ∙ is) in let no' : ⊥ = omega (arith, places) in absurd no';
    first_backed = record { backed = λ passed. absurd (first_out (in_taken (front s level ++ lit ∷ []) head (neg_ℤ lit) passed)) };
    second_backed = record {
      backed = λ passed k on. elim (cases_lt k level) [
        | inl less ↦ no_both (subst (λ ls. is_in ls (neg_ℤ b) ≡ true) (low_front k less) on) (subst (λ z. is_in (front s k) (neg_ℤ z) ≡ false) (sym is) (j.second two k less))
        | inr more ↦ subst (λ ls. is_in ls lit ≡ true) (sym (high_front k more)) (own (front s level) lit)
      ];
    };
  }

  -- a clause of one literal jumps to level 0
  ground_level : length clause ≡ 1 → level ≡ 0
  ground_level one = elim (cases_lt 0 level) [
    | inl more ↦ absurd (j.least 0 more (λ k d klt. inl (get_or_default clause k d (pos 0) klt ∙ ap (λ i. lit_at clause i) (omega (arith, klt, one)))))
    | inr none ↦ omega (arith, none)
  ]

  pair_kept : (head : ℕ) (c : List ℤ) → c ≡ clause → IsWatched s' head clause (pair_at c)
  pair_kept head [] is = let no' : ⊥ = omega (arith, a.some, ap (λ c. length c) is) in absurd no'
  pair_kept head (x ∷ []) is = idle s' clause lit all (Contains-get_or clause 0 (pos 0) a.some) (own (front s level) lit) where
    all : front s' 0 ≡ front s level ++ lit ∷ []
    all = high_front 0 (omega (arith, ground_level (sym (ap (λ c. length c) is))))
  pair_kept head (x ∷ y ∷ c) is = subst (λ z. IsGuarded s' head clause z y) (sym (ap (λ c. lit_at c 0) is))
      (guarded head y (omega (arith, ap (λ c. length c) is)) (ap (λ c. lit_at c 1) is))

  search_back : IsSearch (back_at s level)
  search_back = levels_back s.vars s.clauses s.lits s.reasons s.starts t level (front_size s level) refl

  pub learnt_kept : (d : Search) (w x : Watched) → AreWatched (back_at s level) w → d ≡ with_implied (with_clause (back_at s level) clause) lit (length s.clauses + 1) → x ≡ with_pair w (pair_at clause)
      → AreWatched d x
  learnt_kept d w x kept is watched = subst (λ d. AreWatched d x) (sym is) (subst (AreWatched (with_clause s' clause)) (sym watched)
      (clause_kept s' w clause (pair_at clause) (implied_kept (back_at s level) w lit (length s.clauses + 1) search_back kept) (pair_kept w.head clause refl)))

pub learnt_joined : (s b d : Search) (clause : List ℤ) (lit : ℤ) (level n : ℕ) → b ≡ back_at s level → d ≡ with_implied (with_clause b clause) lit n → HasJoined s d clause
learnt_joined s b d clause lit level n back is = subst (λ d. HasJoined s d clause) (sym (is ∙ ap (λ b. with_implied (with_clause b clause) lit n) back)) record { vars = refl; clauses = refl }

pub on_both : {T E P Q R : Type 0} (r : Result T E) → (P → Q → R) → OnOk r P → OnOk r Q → OnOk r R
on_both (Ok x) f p q = f p q
on_both (Err e) f p q = p
