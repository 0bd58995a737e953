-- Worked values of the definitions, each computed, and instances that hold or are refused.
use Rattle.std.proofs.Common.{◌≡◌, ◌⊎◌, inl, inr, ℕ, zero, suc, ◌<◌, pos, negsuc, neg_ℤ, true, false, Some, None, [], ◌∷◌, refl, arith}
use Rattle.clause_base.specs.Literals.{is_in}
use Rattle.clause_base.specs.Teaching.{AllButNegated, IsPropagated}
use Rattle.clause_base.proofs.LiteralLemmas.{no_both, differ}
use Rattle.clause_base.proofs.Instances.{all, apart_by, propagated_by_two}
use Rattle.search_trail.specs.Trails.{Search, IsReason, AreStarts, reason_at, start_at, front, nothing_known, with_clause, with_decision, with_implied, back_at}
use Rattle.search_trail.specs.Learning.{IsLearnt, IsAsserting, IsJump, IsDoneBelow}

-- (1 2) and (1 -2); -1 is decided, so 2 follows by the first, and the second is false
unfoldable pub known : Search
known = with_clause (with_clause (nothing_known 2) (pos 1 ∷ pos 2 ∷ [])) (pos 1 ∷ negsuc 1 ∷ [])

unfoldable pub decided : Search
decided = with_decision known (negsuc 0)

unfoldable pub failed : Search
failed = with_implied decided (pos 2) 1

on_trail : failed.lits ≡ negsuc 0 ∷ pos 2 ∷ []
unfolding known decided failed
on_trail = refl

no_reason : reason_at failed.reasons 0 ≡ None
unfolding known decided failed
no_reason = refl

by_first : reason_at failed.reasons 1 ≡ Some 1
unfolding known decided failed
by_first = refl

nothing_on_ground : front failed 0 ≡ []
unfolding known decided failed
nothing_on_ground = refl

all_on_first : front failed 1 ≡ negsuc 0 ∷ pos 2 ∷ []
unfolding known decided failed
all_on_first = refl

taken_back : back_at failed 0 ≡ known
unfolding known decided failed
taken_back = refl

nothing_taken_back : back_at failed 1 ≡ failed
unfolding known decided failed
nothing_taken_back = refl

-- ---- lists and reasons

second_follows : IsReason failed.clauses (negsuc 0 ∷ []) (pos 2) 1
unfolding known decided failed
second_follows = record {
  known = record { some = omega arith; most = omega arith };
  there = (1, omega arith, refl);
  others = all (λ m. (m ≡ pos 2) ⊎ (is_in (negsuc 0 ∷ []) (neg_ℤ m) ≡ true)) (pos 1 ∷ pos 2 ∷ []) (inr refl, (inl refl, tt));
}

-- not before -1 is on the trail
too_soon : IsReason failed.clauses [] (pos 2) 1 → ⊥
unfolding known decided failed
too_soon r = elim (r.others 0 (pos 0) (omega arith)) [ inl same ↦ differ (pos 1) (pos 2) refl same | inr is ↦ no_both is refl ]

no_such_literal : IsReason failed.clauses (negsuc 0 ∷ []) (pos 2) 2 → ⊥
unfolding known decided failed
no_such_literal r = elim (r.others 1 (pos 0) (omega arith)) [ inl same ↦ differ (negsuc 1) (pos 2) refl same | inr is ↦ no_both is refl ]

begins : AreStarts (0 ∷ []) 2
begins = record { rising = λ i j ij jlt. absurd (omega (arith, ij, jlt)); inside = inside } where
  inside : (j : ℕ) → j < 1 → start_at (0 ∷ []) j < 2
  inside zero jlt = omega arith
  inside (suc j) jlt = absurd (omega (arith, jlt))

no_empty_level : AreStarts (0 ∷ 0 ∷ []) 2 → ⊥
no_empty_level are = omega (arith, are.rising 0 1 (omega arith) (omega arith))

behind_the_trail : AreStarts (2 ∷ []) 2 → ⊥
behind_the_trail are = omega (arith, are.inside 0 (omega arith))

-- ---- what the conflict teaches

learnt : IsLearnt failed (pos 1 ∷ [])
unfolding known decided failed
learnt = record {
  once = record { once = λ p q pl ql same. omega (arith, pl, ql); apart = apart_by (pos 1 ∷ []) refl };
  negated = all (λ l. is_in (negsuc 0 ∷ pos 2 ∷ []) (neg_ℤ l) ≡ true) (pos 1 ∷ []) (refl, tt);
}

true_on_trail : IsLearnt failed (pos 2 ∷ []) → ⊥
unfolding known decided failed
true_on_trail l = no_both (l.negated 0 (pos 0) (omega arith)) refl

asserting : IsAsserting failed (pos 1 ∷ [])
unfolding known decided failed
asserting = record { some = omega arith; first = refl; others = all (λ m. (m ≡ pos 1) ⊎ (false ≡ true)) (pos 1 ∷ []) (inl refl, tt) }

empty_asserts_nothing : IsAsserting failed [] → ⊥
empty_asserts_nothing a = omega (arith, a.some)

two_of_the_level : IsAsserting failed (pos 1 ∷ negsuc 1 ∷ []) → ⊥
unfolding known decided failed
two_of_the_level a = elim (a.others 1 (pos 0) (omega arith)) [ inl same ↦ differ (negsuc 1) (pos 1) refl same | inr is ↦ no_both is refl ]

to_ground : IsJump failed (pos 1 ∷ []) 0
unfolding known decided failed
to_ground = record {
  lower = λ some. omega arith;
  reached = all (λ m. (m ≡ pos 1) ⊎ (false ≡ true)) (pos 1 ∷ []) (inl refl, tt);
  least = λ other low. absurd (omega (arith, low));
  second = λ two. absurd (omega (arith, two));
}

not_to_the_current : IsJump failed (pos 1 ∷ []) 1 → ⊥
unfolding known decided failed
not_to_the_current j = omega (arith, j.lower (omega arith))

-- 1 and then 2 are decided: what is learnt of both leads to level 1, where 1 is
two_levels : Search
two_levels = with_decision (with_decision (nothing_known 2) (pos 1)) (pos 2)

to_second : IsJump two_levels (negsuc 1 ∷ negsuc 0 ∷ []) 1
unfolding two_levels
to_second = record {
  lower = λ some. omega arith;
  reached = all (λ m. (m ≡ negsuc 1) ⊎ (is_in (pos 1 ∷ []) (neg_ℤ m) ≡ true)) (negsuc 1 ∷ negsuc 0 ∷ []) (inl refl, (inr refl, tt));
  least = no_lower;
  second = λ two. not_there;
} where
  no_lower : (other : ℕ) → other < 1 → AllButNegated (is_in (front two_levels other)) (negsuc 1 ∷ negsuc 0 ∷ []) (negsuc 1) → ⊥
  no_lower zero low rest = elim (rest 1 (pos 0) (omega arith)) [ inl same ↦ differ (negsuc 0) (negsuc 1) refl same | inr is ↦ no_both is refl ]
  no_lower (suc other) low rest = omega (arith, low)

  not_there : (other : ℕ) → other < 1 → is_in (front two_levels other) (pos 1) ≡ false
  not_there zero low = refl
  not_there (suc other) low = absurd (omega (arith, low))

-- The second literal is not the one of the level to jump to.
wrong_second : IsJump two_levels (negsuc 1 ∷ negsuc 0 ∷ []) 0 → ⊥
unfolding two_levels
wrong_second j = elim (j.reached 1 (pos 0) (omega arith)) [ inl same ↦ differ (negsuc 0) (negsuc 1) refl same | inr is ↦ no_both is refl ]

-- Below level 1 nothing is true, and two literals of each clause are left.
done_below : IsDoneBelow failed
unfolding known decided failed
done_below = all (IsPropagated (λ l. false)) ((pos 1 ∷ pos 2 ∷ []) ∷ (pos 1 ∷ negsuc 1 ∷ []) ∷ []) (
  propagated_by_two (λ l. false) (pos 1 ∷ pos 2 ∷ []) (pos 1) (pos 2) (0, omega arith, refl) (1, omega arith, refl) (differ (pos 1) (pos 2) refl) refl refl,
  (propagated_by_two (λ l. false) (pos 1 ∷ negsuc 1 ∷ []) (pos 1) (negsuc 1) (0, omega arith, refl) (1, omega arith, refl) (differ (pos 1) (negsuc 1) refl) refl refl, tt),
)
