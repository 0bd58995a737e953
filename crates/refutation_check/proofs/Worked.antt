-- Worked values of the definitions, each computed, and instances that hold or are refused.
use Rattle.std.proofs.Common.{◌≡◌, ◌⊎◌, inl, inr, ℕ, ◌<◌, ◌≤◌, ℤ, pos, negsuc, Bool, true, false, List, [], ◌∷◌, ◌++◌, length, refl, sym, ◌∙◌, arith}
use Rattle.clause_base.specs.Literals.{is_in}
use Rattle.clause_base.specs.Solving.{IsTrueUnder}
use Rattle.clause_base.proofs.LiteralLemmas.{no_both, contains_in, differ}
use Rattle.clause_base.proofs.Instances.{all}
use Rattle.clause_base.proofs.Worked.{square}
use Rattle.refutation_check.specs.declared.hints.StepRefusal.TheVariants.{NoSuchClause, NotUnit, NoClash}
use Rattle.refutation_check.specs.Following.{IsNumber, numbered, HasFailed, IsUnit, joined, Follows, IsDerivation}
use Rattle.refutation_check.specs.Refusing.{IsRefused}
use Rattle.refutation_check.specs.Marking.{Stamps, is_marked}
use Rattle.refutation_check.specs.Keeping.{Kept, nothing_kept, with_axiom, with_derived, given_clauses, AreUnsolvable}
use Rattle.refutation_check.proofs.Soundness.{refutes}

number : (earlier : List (List ℤ)) (hint : ℕ) → 0 < hint → hint ≤ length earlier → IsNumber earlier hint
number earlier hint some most = record { some = some; most = most }

no_number : IsNumber square 0 → ⊥
no_number n = omega (arith, n.some)

behind_the_last : IsNumber square 5 → ⊥
unfolding square
behind_the_last n = omega (arith, n.most)

third : numbered square 3 ≡ negsuc 0 ∷ pos 2 ∷ []
unfolding square
third = refl

-- ---- clauses and sets

-- exactly one literal is outside, though it is listed twice
listed_twice : IsUnit (is_in (pos 1 ∷ [])) (pos 2 ∷ pos 1 ∷ pos 2 ∷ []) (pos 2)
listed_twice = record { there = (0, omega arith, refl); left = refl; others = all (λ m. (m ≡ pos 2) ⊎ (is_in (pos 1 ∷ []) m ≡ true)) (pos 2 ∷ pos 1 ∷ pos 2 ∷ []) (inl refl, (inr refl, (inl refl, tt))) }

two_outside : (lit : ℤ) → IsUnit (is_in []) (pos 1 ∷ pos 2 ∷ []) lit → ⊥
two_outside lit unit = elim (unit.others 0 (pos 0) (omega arith)) [
  | inl first ↦ elim (unit.others 1 (pos 0) (omega arith)) [ inl second ↦ differ (pos 1) (pos 2) refl (first ∙ sym second) | inr is ↦ no_both is refl ]
  | inr is ↦ no_both is refl
]

none_outside : (lit : ℤ) → IsUnit (is_in (pos 1 ∷ pos 2 ∷ [])) (pos 1 ∷ pos 2 ∷ []) lit → ⊥
none_outside lit unit = no_both (contains_in (pos 1 ∷ pos 2 ∷ []) lit unit.there) unit.left

empty_failed : (fails : ℤ → Bool) → HasFailed fails []
empty_failed fails = all (λ l. fails l ≡ true) [] tt

negation_joins : joined (pos 2) (is_in (pos 1 ∷ [])) (negsuc 1) ≡ true
negation_joins = refl

others_stay_out : joined (pos 2) (is_in (pos 1 ∷ [])) (pos 2) ≡ false
others_stay_out = refl

-- ---- lines

-- (1) by the first two clauses, and then the empty clause
first_line : Follows square (pos 1 ∷ []) (1 ∷ 2 ∷ [])
unfolding square
first_line = (
  number square 1 (omega arith) (omega arith),
  pos 2,
  record { there = (1, omega arith, refl); left = refl; others = all (λ m. (m ≡ pos 2) ⊎ (is_in (pos 1 ∷ []) m ≡ true)) (pos 1 ∷ pos 2 ∷ []) (inr refl, (inl refl, tt)) },
  (number square 2 (omega arith) (omega arith), all (λ l. joined (pos 2) (is_in (pos 1 ∷ [])) l ≡ true) (pos 1 ∷ negsuc 1 ∷ []) (refl, (refl, tt))),
)

with_first : List (List ℤ)
with_first = square ++ (pos 1 ∷ []) ∷ []

second_line : Follows with_first [] (5 ∷ 3 ∷ 4 ∷ [])
unfolding square with_first
second_line = (
  number with_first 5 (omega arith) (omega arith),
  pos 1,
  record { there = (0, omega arith, refl); left = refl; others = all (λ m. (m ≡ pos 1) ⊎ (false ≡ true)) (pos 1 ∷ []) (inl refl, tt) },
  (
    number with_first 3 (omega arith) (omega arith),
    pos 2,
    record { there = (1, omega arith, refl); left = refl; others = all (λ m. (m ≡ pos 2) ⊎ (joined (pos 1) (is_in []) m ≡ true)) (negsuc 0 ∷ pos 2 ∷ []) (inr refl, (inl refl, tt)) },
    (number with_first 4 (omega arith) (omega arith), all (λ l. joined (pos 2) (joined (pos 1) (is_in [])) l ≡ true) (negsuc 0 ∷ negsuc 1 ∷ []) (refl, (refl, tt))),
  ),
)

unfoldable pub refutation : List (List ℤ × List ℕ)
refutation = (pos 1 ∷ [], 1 ∷ 2 ∷ []) ∷ ([], 5 ∷ 3 ∷ 4 ∷ []) ∷ []

pub derivation : IsDerivation square refutation
unfolding refutation with_first
derivation = (first_line, (second_line, tt))

-- The second line needs the first.
second_alone : IsDerivation square (([], 5 ∷ 3 ∷ 4 ∷ []) ∷ []) → ⊥
second_alone d = behind_the_last d.0.0

-- The one literal outside is true already: (1 2) leaves 2, whose negation is in the clause.
true_already : Follows square (pos 1 ∷ negsuc 1 ∷ []) (1 ∷ 2 ∷ [])
unfolding square
true_already = (
  number square 1 (omega arith) (omega arith),
  pos 2,
  record { there = (1, omega arith, refl); left = refl; others = all (λ m. (m ≡ pos 2) ⊎ (is_in (pos 1 ∷ negsuc 1 ∷ []) m ≡ true)) (pos 1 ∷ pos 2 ∷ []) (inr refl, (inl refl, tt)) },
  (number square 2 (omega arith) (omega arith), all (λ l. joined (pos 2) (is_in (pos 1 ∷ negsuc 1 ∷ [])) l ≡ true) (pos 1 ∷ negsuc 1 ∷ []) (refl, (refl, tt))),
)

-- A clause that is false already is no hint before the last.
false_too_soon : Follows square (pos 1 ∷ pos 2 ∷ []) (1 ∷ 2 ∷ []) → ⊥
unfolding square
false_too_soon (is, lit, unit, rest) = none_outside lit unit

two_left : Follows square [] (1 ∷ 2 ∷ []) → ⊥
unfolding square
two_left (is, lit, unit, rest) = two_outside lit unit

one_left_at_last : Follows square (pos 2 ∷ []) (1 ∷ []) → ⊥
unfolding square
one_left_at_last (is, failed) = no_both (failed 0 (pos 0) (omega arith)) refl

no_hints : Follows square (pos 1 ∷ []) [] → ⊥
no_hints runs = runs

-- ---- refusals

too_soon_is_refused : IsRefused square (is_in (pos 1 ∷ pos 2 ∷ [])) (1 ∷ 2 ∷ []) (NotUnit 0)
unfolding square
too_soon_is_refused = record { inside = omega arith; set = is_in (pos 1 ∷ pos 2 ∷ []); leads = refl; number = number square 1 (omega arith) (omega arith); none = none_outside }

lost : IsRefused square (is_in (pos 1 ∷ [])) (1 ∷ 5 ∷ []) (NoSuchClause 1)
unfolding square first_line
lost = record { inside = omega arith; set = joined (pos 2) (is_in (pos 1 ∷ [])); leads = (first_line.0, pos 2, first_line.2, refl); none = behind_the_last }

clashless : IsRefused square (is_in (pos 2 ∷ [])) (1 ∷ []) NoClash
unfolding square
clashless = inr (record { some = omega arith; set = is_in (pos 2 ∷ []); leads = refl; number = number square 1 (omega arith) (omega arith); none = λ failed. no_both (failed 0 (pos 0) (omega arith)) refl })

nothing_hinted : IsRefused square (is_in (pos 1 ∷ [])) [] NoClash
nothing_hinted = inl refl

-- A last hint is never refused as one that is not unit.
last_is_no_unit : IsRefused square (is_in (pos 2 ∷ [])) (1 ∷ []) (NotUnit 0) → ⊥
last_is_no_unit stuck = omega (arith, stuck.inside)

-- ---- what is kept

kept : Kept
kept = with_derived (with_axiom (with_derived (with_axiom (nothing_kept 2) (pos 1 ∷ [])) (pos 1 ∷ pos 2 ∷ [])) (negsuc 0 ∷ [])) []

given : given_clauses kept ≡ (pos 1 ∷ []) ∷ (negsuc 0 ∷ []) ∷ []
unfolding kept
given = refl

closed : kept.closed ≡ true
unfolding kept
closed = refl

-- An empty clause that is given closes nothing.
given_empty : (with_axiom (nothing_kept 2) []).closed ≡ false
given_empty = refl

unsolvable : AreUnsolvable square
unfolding refutation
unsolvable holds consistent solved = refutes holds consistent square refutation (5 ∷ 3 ∷ 4 ∷ []) derivation (1, omega arith, refl) solved

none_to_solve : AreUnsolvable [] → ⊥
none_to_solve none = none (λ l. false) (record { apart = λ l is. refl }) (all (IsTrueUnder (λ l. false)) [] tt)

-- ---- stamps

table : Stamps
table = record { vars = 1; stamps = 0 ∷ 0 ∷ 4 ∷ 3 ∷ []; stamp = 4 }

marked : is_marked table (pos 1) ≡ true
unfolding table
marked = refl

marked_before : is_marked table (negsuc 0) ≡ false
unfolding table
marked_before = refl
