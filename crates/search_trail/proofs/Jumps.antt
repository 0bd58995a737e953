-- A learnt clause after the jump back: its first literal alone isn't false.
use Rattle.std.proofs.Common.{◌≡◌, ℕ, ◌+◌, ◌-◌, ◌<◌, ◌≤◌, inl, inr, ℤ, pos, neg_ℤ, false, List, [], ◌∷◌, ◌++◌, length, sym, ap, subst, arith}
use Rattle.std.specs.List.{Contains}
use Rattle.std.proofs.lemmas.Bool.{cases_lt}
use Rattle.std.proofs.lemmas.List.{length_push, get_or_push, get_or_default}
use Rattle.std.proofs.lemmas.List.Elements.{Contains-get_or}
use Rattle.clause_base.specs.Literals.{is_in, lit_at}
use Rattle.clause_base.specs.Teaching.{AllButNegated}
use Rattle.clause_base.proofs.LiteralLemmas.{by_test, no_both, in_contains}
use Rattle.refutation_check.specs.Following.{numbered}
use Rattle.search_trail.specs.Trails.{Search, IsSearch, IsReason, front, front_size}
use Rattle.search_trail.specs.Learning.{IsLearnt, IsAsserting, IsJump}
use Rattle.search_trail.proofs.Members.{in_taken, in_further}

pub front_rising : (s : Search) (i j : ℕ) → IsSearch s → i ≤ j → j < length s.starts → front_size s i ≤ front_size s j
front_rising s i j t le lt = elim (cases_lt i j) [
  | inl less ↦ omega (arith, t.levels.rising i j less lt, get_or_default s.starts i (length s.lits) 0 (omega (arith, less, lt)), get_or_default s.starts j (length s.lits) 0 lt)
  | inr more ↦ let same : i ≡ j = omega (arith, le, more) in omega (arith, ap (λ n. front_size s n) same)
]

pub reason : (s : Search) (clause : List ℤ) (level : ℕ) → IsAsserting s clause → IsJump s clause level → IsReason (s.clauses ++ clause ∷ []) (front s level) (lit_at clause 0) (length s.clauses + 1)
reason s clause level a j = record {
  known = record { some = omega arith; most = omega (arith, length_push s.clauses clause) };
  there = subst (λ c. Contains c (lit_at clause 0)) (sym same) (Contains-get_or clause 0 (pos 0) a.some);
  others = subst (λ c. AllButNegated (is_in (front s level)) c (lit_at clause 0)) (sym same) j.reached;
} where
  same : numbered (s.clauses ++ clause ∷ []) (length s.clauses + 1) ≡ clause
  same = get_or_push s.clauses clause [] (length s.clauses + 1 - 1) (omega arith)

pub unset : (s : Search) (clause : List ℤ) (level : ℕ) → IsSearch s → IsLearnt s clause → IsAsserting s clause → is_in (front s level) (lit_at clause 0) ≡ false
unset s clause level t l a = by_test (is_in (front s level) (lit_at clause 0))
    (λ is. absurd (t.once.apart.apart (lit_at clause 0) (in_contains s.lits (lit_at clause 0) (in_taken s.lits (front_size s level) (lit_at clause 0) is))
    (in_contains s.lits (neg_ℤ (lit_at clause 0)) (l.negated 0 (pos 0) a.some))))
    (λ none. none)

pub unset_negated : (s : Search) (clause : List ℤ) (level : ℕ) → IsSearch s → IsAsserting s clause → level < length s.starts → is_in (front s level) (neg_ℤ (lit_at clause 0)) ≡ false
unset_negated s clause level t a lt = by_test (is_in (front s level) (neg_ℤ (lit_at clause 0)))
    (λ is. no_both (in_further s.lits (front_size s level) (front_size s (length s.starts - 1)) (neg_ℤ (lit_at clause 0)) (front_rising s level (length s.starts - 1) t (omega (arith, lt)) (omega (arith, lt))) is) a.first)
    (λ none. none)
