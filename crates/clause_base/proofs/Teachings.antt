-- What a clause that teaches is not: an earlier clause, or one with an earlier clause inside.
use Rattle.std.proofs.Common.{◌≡◌, ◌≢◌, ◌⊎◌, inl, inr, ℤ, pos, neg_ℤ, true, List, get_or, ◌∙◌, subst, arith}
use Rattle.std.specs.List.{All, Contains}
use Rattle.std.proofs.Math.IntN.{neg_ℤ-neg_ℤ}
use Rattle.std.proofs.lemmas.Int.{ints}
use Rattle.std.proofs.lemmas.List.Elements.{All-contains}
use Rattle.clause_base.specs.Novelty.{IsApart, IsNew}
use Rattle.clause_base.specs.Teaching.{AllButNegated, IsPropagated, Teaches}
use Rattle.clause_base.proofs.LiteralLemmas.{no_both, by_place}

module _ (earlier : List (List ℤ)) (clause : List ℤ) (h : Teaches earlier clause) where
  -- what is known of each literal of a clause that lies inside
  negated : (other : List ℤ) → All (Contains clause) other → AllButNegated h.set other h.lit
  negated other inside k d lt = All-contains (λ m. (m ≡ h.lit) ⊎ (h.set (neg_ℤ m) ≡ true)) clause (get_or other k d) h.others (inside k d lt)

  pub no_superset : All (λ other. All (Contains clause) other → ⊥) earlier
  no_superset k d lt inside = by_place h.lit (get_or earlier k d)
      (λ there. no_both (kept.unit h.lit there (negated (get_or earlier k d) inside) h.open_negated) h.open_)
      (λ other. kept.standing (λ j e jlt. elim (negated (get_or earlier k d) inside j e jlt) [ inl same ↦ absurd (other j e jlt same) | inr is ↦ is ]))
    where
      kept : IsPropagated h.set (get_or earlier k d)
      kept = h.closed k d lt

  known : (m : ℤ) → Contains clause m → (m ≡ h.lit) ⊎ (h.set (neg_ℤ m) ≡ true)
  known m has = All-contains (λ m. (m ≡ h.lit) ⊎ (h.set (neg_ℤ m) ≡ true)) clause m h.others has

  pub is_apart : All (λ l. l ≢ pos 0) clause → IsApart clause
  is_apart some = record { apart = λ l has back. clash l (nonzero l has) (known l has) (known (neg_ℤ l) back) } where
    nonzero : (l : ℤ) → Contains clause l → l ≢ pos 0
    nonzero l has = All-contains (λ l. l ≢ pos 0) clause l some has

    clash : (l : ℤ) → l ≢ pos 0 → (l ≡ h.lit) ⊎ (h.set (neg_ℤ l) ≡ true) → (neg_ℤ l ≡ h.lit) ⊎ (h.set (neg_ℤ (neg_ℤ l)) ≡ true) → ⊥
    clash l some (inl here) (inl back) = grind (arith, ints, some, here, back)
    clash l some (inl here) (inr back) = no_both (subst (λ z. h.set z ≡ true) (neg_ℤ-neg_ℤ l ∙ here) back) h.open_
    clash l some (inr here) (inl back) = no_both (subst (λ z. h.set z ≡ true) back here) h.open_
    clash l some (inr here) (inr back) = no_both here (h.consistent.apart l (subst (λ z. h.set z ≡ true) (neg_ℤ-neg_ℤ l) back))

  pub is_new : All (λ l. l ≢ pos 0) clause → IsNew earlier clause
  is_new some = record { apart = is_apart some; fresh = λ k d lt same. no_superset k d lt same.there }
