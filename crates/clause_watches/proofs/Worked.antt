-- Worked values of the definitions, each computed, and instances that hold or are refused.
use Rattle.std.proofs.Common.{◌≡◌, inl, inr, ℕ, zero, suc, ℤ, pos, negsuc, neg_ℤ, true, false, Some, None, [], ◌∷◌, length, refl, ap, arith}
use Rattle.clause_base.specs.Literals.{is_in}
use Rattle.clause_base.proofs.LiteralLemmas.{no_both, differ}
use Rattle.clause_base.proofs.Instances.{all, not_true}
use Rattle.clause_base.proofs.Worked.{no_tautology}
use Rattle.refutation_check.specs.Following.{IsNumber, numbered}
use Rattle.search_trail.specs.Trails.{Search, front, nothing_known, with_clause, with_implied}
use Rattle.search_trail.proofs.Worked.{known, decided, failed}
use Rattle.clause_watches.specs.Listing.{pair_of}
use Rattle.clause_watches.specs.Watching.{Watched, IsBacked, IsGuarded, IsIdle, IsWatched, AreWatched, HasGrown, IsConflict, nothing_watched, with_pair, gone_back}

-- The search knows (1 2) and (1 -2), each watched at both its literals.
both_watched : Watched
both_watched = with_pair (with_pair (nothing_watched 2) (Some (pos 1, pos 2))) (Some (pos 1, negsuc 1))

pairs : both_watched.pairs ≡ Some (pos 1, pos 2) ∷ Some (pos 1, negsuc 1) ∷ []
unfolding both_watched
pairs = refl

back_to_none : (gone_back (record { vars = 2; head = 5; pairs = [] }) 3).head ≡ 3
back_to_none = refl

not_forward : (gone_back both_watched 3).head ≡ 0
unfolding both_watched
not_forward = refl

-- ---- one pair of literals

-- where nothing was gone through, each literal is backed
not_gone_yet : (s : Search) (a b : ℤ) → IsBacked s 0 a b
not_gone_yet s a b = record { backed = λ gone. no_both gone refl }

-- 1 was found to be false, and 2 was made true on the same level
backed : IsBacked failed 1 (pos 1) (pos 2)
unfolding known decided failed
backed = record { backed = λ gone level up. at level up } where
  at : (level : ℕ) → is_in (front failed level) (negsuc 0) ≡ true → is_in (front failed level) (pos 2) ≡ true
  at zero up = no_both up refl
  at (suc level) up = refl

not_backed : IsBacked decided 1 (pos 1) (pos 2) → ⊥
unfolding known decided
not_backed b = no_both (b.backed refl 1 refl) refl

guarded : IsGuarded known 0 (pos 1 ∷ pos 2 ∷ []) (pos 1) (pos 2)
unfolding known
guarded = record {
  first = (0, omega arith, refl);
  second = (1, omega arith, refl);
  differ = differ (pos 1) (pos 2) refl;
  first_backed = not_gone_yet known (pos 1) (pos 2);
  second_backed = not_gone_yet known (pos 2) (pos 1);
}

one_literal_twice : IsGuarded known 0 (pos 1 ∷ pos 2 ∷ []) (pos 1) (pos 1) → ⊥
one_literal_twice g = g.differ refl

-- ---- clauses that need no watch

-- (1) makes 1 true on level 0
settled : Search
settled = with_implied (with_clause (nothing_known 2) (pos 1 ∷ [])) (pos 1) 1

idle : IsIdle settled (negsuc 1 ∷ pos 1 ∷ [])
unfolding settled
idle = inr (1, pos 1, omega arith, refl, refl)

-- a literal that is true above level 0 is not enough
not_idle : IsIdle failed (pos 1 ∷ pos 2 ∷ []) → ⊥
unfolding known decided failed
not_idle (inl t) = no_tautology t
not_idle (inr some) = not_true (λ l. false) (pos 1 ∷ pos 2 ∷ []) refl some

empty_is_not_kept : (s : Search) → IsWatched s 0 [] None → ⊥
empty_is_not_kept s (inl t) = let (k, lt, at) = t.there in omega (arith, lt)
empty_is_not_kept s (inr some) = let (k, l, lt, at, is) = some in omega (arith, lt)

-- ---- searches

kept : AreWatched known both_watched
unfolding known both_watched
kept = record { vars = refl; paired = refl; gone = omega arith; levels = λ j jlt. absurd (omega (arith, jlt)); kept = each } where
  each : (number : ℕ) → IsNumber known.clauses number → IsWatched known 0 (numbered known.clauses number) (pair_of both_watched.pairs number)
  each zero is = absurd (omega (arith, is.some))
  each (suc zero) is = guarded
  each (suc (suc zero)) is = record {
    first = (0, omega arith, refl);
    second = (1, omega arith, refl);
    differ = differ (pos 1) (negsuc 1) refl;
    first_backed = not_gone_yet known (pos 1) (negsuc 1);
    second_backed = not_gone_yet known (negsuc 1) (pos 1);
  }
  each (suc (suc (suc n))) is = absurd (omega (arith, is.most))

one_unwatched : AreWatched known (with_pair (nothing_watched 2) (Some (pos 1, pos 2))) → ⊥
unfolding known
one_unwatched k = omega (arith, k.paired)

grown : HasGrown decided failed
unfolding known decided failed
grown = record { vars = refl; clauses = refl; starts = refl; lits = refl; more = omega arith }

new_level : HasGrown known decided → ⊥
unfolding known decided
new_level g = let levels : 1 ≡ 0 = ap length g.starts in omega (arith, levels)

-- (1 -2) is false
conflict : IsConflict failed 2
unfolding known decided failed
conflict = record { known = record { some = omega arith; most = omega arith }; failed = all (λ l. is_in (negsuc 0 ∷ pos 2 ∷ []) (neg_ℤ l) ≡ true) (pos 1 ∷ negsuc 1 ∷ []) (refl, (refl, tt)) }

no_conflict : IsConflict failed 1 → ⊥
unfolding known decided failed
no_conflict c = no_both (c.failed 1 (pos 0) (omega arith)) refl
