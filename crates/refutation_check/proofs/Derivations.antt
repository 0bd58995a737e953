-- Derivations line by line.
use Rattle.std.proofs.Common.{◌≡◌, ℕ, ℤ, List, [], ◌∷◌, ◌++◌, sym, ◌∙◌, ap, subst, append_assoc}
use Rattle.std.proofs.lemmas.List.{append-nil}
use Rattle.refutation_check.specs.Following.{Follows, IsDerivation}
use Rattle.refutation_check.specs.Keeping.{Kept, with_derived}
use Rattle.refutation_check.specs.Deriving.{line_clauses, AreAccepted}

-- one line more
pub follow_more : (earlier : List (List ℤ)) (lines : List (List ℤ × List ℕ)) (clause : List ℤ) (hints : List ℕ)
    → IsDerivation earlier lines → Follows (earlier ++ line_clauses lines) clause hints → IsDerivation earlier (lines ++ (clause, hints) ∷ [])
follow_more earlier [] clause hints d f = (subst (λ cs. Follows cs clause hints) (append-nil earlier) f, tt)
follow_more earlier (line ∷ lines) clause hints (first, rest) f = (
  first,
  follow_more (earlier ++ line.0 ∷ []) lines clause hints rest
      (subst (λ cs. Follows cs clause hints) (sym (append_assoc earlier (line.0 ∷ []) (line_clauses lines))) f),
)

-- what a checker accepted is a derivation
pub accepted : (old new : Kept) (lines : List (List ℤ × List ℕ)) → AreAccepted old lines new → IsDerivation old.clauses lines
accepted old new [] taken = tt
accepted old new (line ∷ lines) taken = (taken.0, accepted (with_derived old line.0) new lines taken.1)

-- it keeps the clauses of the lines
pub kept_after : (old new : Kept) (lines : List (List ℤ × List ℕ)) → AreAccepted old lines new → new.clauses ≡ old.clauses ++ line_clauses lines
kept_after old new [] taken = ap (λ k. k.clauses) taken ∙ sym (append-nil old.clauses)
kept_after old new (line ∷ lines) taken =
    kept_after (with_derived old line.0) new lines taken.1 ∙ append_assoc old.clauses (line.0 ∷ []) (line_clauses lines)
