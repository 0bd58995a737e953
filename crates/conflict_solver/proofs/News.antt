-- Lines that teach and aren't empty are new.
use Rattle.std.proofs.Common.{◌≡◌, ◌≢◌, ◌⊎◌, inl, inr, ℕ, ℤ, pos, true, List, [], ◌∷◌, ◌++◌, All, arith}
use Rattle.std.proofs.lemmas.Int.{ints}
use Rattle.std.proofs.lemmas.Bool.Decides.{nat_tests}
use Rattle.std.proofs.lemmas.List.Elements.{All-head, All-tail, All-weaker}
use Rattle.clause_base.specs.Plain.{IsPlain}
use Rattle.clause_base.proofs.Teachings.{is_new}
use Rattle.clause_base.specs.FormulaText.{is_literal_of}
use Rattle.clause_base.specs.Novelty.{IsNew}
use Rattle.clause_base.specs.Teaching.{Teaches}
use Rattle.refutation_check.specs.Deriving.{AllTeach, AllNew}

nonzero : (vars : ℕ) (l : ℤ) → is_literal_of vars l ≡ true → l ≢ pos 0
nonzero vars l is same = grind (arith, ints, nat_tests, is, same)

new_line : (vars : ℕ) (earlier : List (List ℤ)) (clause : List ℤ) → (clause ≡ []) ⊎ Teaches earlier clause → clause ≢ [] → IsPlain vars clause → IsNew earlier clause
new_line vars earlier clause (inl empty) some plain = absurd (some empty)
new_line vars earlier clause (inr teaches) some plain =
    is_new earlier clause teaches (All-weaker (λ l. is_literal_of vars l ≡ true) (λ l. l ≢ pos 0) (nonzero vars) clause plain.literals)

pub all_new : (vars : ℕ) (earlier : List (List ℤ)) (lines : List (List ℤ × List ℕ)) → AllTeach earlier lines → All (λ line. line.0 ≢ []) lines → All (λ line. IsPlain vars line.0) lines → AllNew earlier lines
all_new vars earlier [] teach some plain = tt
all_new vars earlier (line ∷ lines) teach some plain = (
  new_line vars earlier line.0 teach.0 (All-head (λ line. line.0 ≢ []) line lines some) (All-head (λ line. IsPlain vars line.0) line lines plain),
  all_new vars (earlier ++ line.0 ∷ []) lines teach.1 (All-tail (λ line. line.0 ≢ []) line lines some) (All-tail (λ line. IsPlain vars line.0) line lines plain),
)
