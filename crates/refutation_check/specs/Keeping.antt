-- What a checker keeps.
use Rattle.std.specs.Prelude.{◌≡◌, ℕ, ℤ, Bool, true, false, ◌||◌, nat_eq, List, [], ◌∷◌, ◌++◌, length, All, Contains}
use Rattle.clause_base.specs.Formulas.{IsClauseWithin}
use Rattle.clause_base.specs.Solving.{Solves}
use Rattle.clause_base.specs.Teaching.{IsConsistent}

-- The clauses that are kept, in their order, for each whether it was given and not derived, and whether an empty one
-- was derived.
pub record Kept : Type 0 where
  pub vars : ℕ
  pub clauses : List (List ℤ)
  pub given : List Bool
  pub closed : Bool

-- a checker that was told nothing
abbrev pub nothing_kept : ℕ → Kept
nothing_kept vars = record { vars = vars; clauses = []; given = []; closed = false }

-- one given clause more
abbrev pub with_axiom : Kept → List ℤ → Kept
with_axiom kept clause = record { vars = kept.vars; clauses = kept.clauses ++ clause ∷ []; given = kept.given ++ true ∷ []; closed = kept.closed }

-- one derived clause more
abbrev pub with_derived : Kept → List ℤ → Kept
with_derived kept clause = record { vars = kept.vars; clauses = kept.clauses ++ clause ∷ []; given = kept.given ++ false ∷ []; closed = kept.closed || nat_eq (length clause) 0 }

-- the clauses that were given
abbrev pub given_of : List Bool → List (List ℤ) → List (List ℤ)
given_of [] clauses = []
given_of (is_given ∷ given) [] = []
given_of (true ∷ given) (clause ∷ clauses) = clause ∷ given_of given clauses
given_of (false ∷ given) (clause ∷ clauses) = given_of given clauses

abbrev pub given_clauses : Kept → List (List ℤ)
given_clauses kept = given_of kept.given kept.clauses

-- no values make each of the clauses true
abbrev pub AreUnsolvable : List (List ℤ) → Type 0
AreUnsolvable clauses = (holds : ℤ → Bool) → IsConsistent holds → Solves holds clauses → ⊥

-- What a checker keeps true: whatever solves the given clauses solves all, and an empty one is there once it is closed.
pub record IsCheckerState (vars : ℕ) (clauses : List (List ℤ)) (given : List Bool) (closed : Bool) : Type 0 where
  pub within : All (IsClauseWithin vars) clauses
  pub paired : length given ≡ length clauses
  pub sound : (holds : ℤ → Bool) → IsConsistent holds → Solves holds (given_of given clauses) → Solves holds clauses
  pub empty : closed ≡ true → Contains clauses []
