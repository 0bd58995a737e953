-- A clause of literals is a tautology, or no literal stands beside its negation.
use Rattle.std.proofs.Common.{◌≡◌, ◌≢◌, ◌⊎◌, inl, inr, ℕ, ℤ, pos, neg_ℤ, true, List, get_or, sym, subst, arith}
use Rattle.std.specs.List.{All, Contains, list_any}
use Rattle.std.proofs.lemmas.Int.{ints}
use Rattle.std.proofs.lemmas.List.Elements.{All-contains}
use Rattle.std.proofs.lemmas.List.Folds.{Any-from_list_any, list_any_at}
use Rattle.clause_base.specs.Literals.{is_in}
use Rattle.clause_base.specs.Novelty.{IsApart, IsTautology}
use Rattle.clause_base.proofs.LiteralLemmas.{by_test, no_both, contains_in, in_contains}

pub not_both : (clause : List ℤ) → IsTautology clause → IsApart clause → ⊥
not_both clause twice apart = apart.apart twice.lit twice.there twice.back

pub one : (clause : List ℤ) → All (λ l. l ≢ pos 0) clause → IsTautology clause ⊎ IsApart clause
one clause some = by_test (list_any (λ l. is_in clause (neg_ℤ l)) clause)
    (λ is. let (k, m, lt, at, back) = Any-from_list_any (λ l. is_in clause (neg_ℤ l)) clause is in inl (twice m (k, lt, at) (in_contains clause (neg_ℤ m) back)))
    (λ none. inr (record { apart = λ l has back. let (k, lt, at) = has in no_both (list_any_at (λ l. is_in clause (neg_ℤ l)) clause k l lt (here k l at back)) none }))
  where
    nonzero : (l : ℤ) → l ≢ pos 0 → l ≢ neg_ℤ l
    nonzero l other same = grind (arith, ints, other, same)

    twice : (l : ℤ) → Contains clause l → Contains clause (neg_ℤ l) → IsTautology clause
    twice l there back = record { lit = l; there = there; back = back; differ = nonzero l (All-contains (λ m. m ≢ pos 0) clause l some there) }

    here : (k : ℕ) (l : ℤ) → get_or clause k l ≡ l → Contains clause (neg_ℤ l) → is_in clause (neg_ℤ (get_or clause k l)) ≡ true
    here k l at back = subst (λ z. is_in clause (neg_ℤ z) ≡ true) (sym at) (contains_in clause (neg_ℤ l) back)
