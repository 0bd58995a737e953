-- When a clause follows from earlier ones by hints, and what a derivation is.
-- Clauses count from 1 in their order. A set of literals is a test: the literals that are taken to be false.
use Rattle.std.specs.Prelude.{◌≡◌, ◌⊎◌, ℕ, ◌<◌, ◌≤◌, ◌-◌, ℤ, neg_ℤ, Bool, true, false, ◌||◌, List, [], ◌∷◌, ◌++◌, length, slice_index_or, All, Contains}
use Rattle.std.specs.Ordering.{int_eq}
use Rattle.clause_base.specs.Literals.{is_in}

-- a number of an earlier clause, from 1
pub record IsNumber (earlier : List (List ℤ)) (hint : ℕ) : Type 0 where
  pub some : 0 < hint
  pub most : hint ≤ length earlier

-- the clause of this number
abbrev pub numbered : List (List ℤ) → ℕ → List ℤ
numbered earlier hint = slice_index_or earlier (hint - 1) []

-- no literal of the clause is outside the set
abbrev pub HasFailed : (ℤ → Bool) → List ℤ → Type 0
HasFailed fails clause = All (λ l. fails l ≡ true) clause

-- exactly this literal of the clause is outside the set, however often it is listed
pub record IsUnit (fails : ℤ → Bool) (clause : List ℤ) (lit : ℤ) : Type 0 where
  pub there : Contains clause lit
  pub left : fails lit ≡ false
  pub others : All (λ m. (m ≡ lit) ⊎ (fails m ≡ true)) clause

-- the negation of this literal joins the set
abbrev pub joined : ℤ → (ℤ → Bool) → ℤ → Bool
joined lit fails m = int_eq m (neg_ℤ lit) || fails m

-- The hint names an earlier clause with one literal outside the set, and this holds of the set that the negation of that
-- literal has joined.
abbrev pub StepsOn : List (List ℤ) → (ℤ → Bool) → ℕ → ((ℤ → Bool) → Type 0) → Type 0
StepsOn earlier fails hint after = IsNumber earlier hint × (lit : ℤ) × IsUnit fails (numbered earlier hint) lit × after (joined lit fails)

-- The hints lead from this set to a clause that has failed: each clause but the last has one literal outside, whose
-- negation joins the set, and the last has none.
abbrev pub Runs : List (List ℤ) → (ℤ → Bool) → List ℕ → Type 0
Runs earlier fails [] = ⊥
Runs earlier fails (hint ∷ []) = IsNumber earlier hint × HasFailed fails (numbered earlier hint)
Runs earlier fails (hint ∷ next ∷ hints) = StepsOn earlier fails hint (λ set. Runs earlier set (next ∷ hints))

-- the hints lead from the clause's own literals to a clause that has failed
abbrev pub Follows : List (List ℤ) → List ℤ → List ℕ → Type 0
Follows earlier clause hints = Runs earlier (is_in clause) hints

-- each line, a clause and its hints, follows from the clauses and the lines before it
abbrev pub IsDerivation : List (List ℤ) → List (List ℤ × List ℕ) → Type 0
IsDerivation earlier [] = Unit {0}
IsDerivation earlier (line ∷ lines) = Follows earlier line.0 line.1 × IsDerivation (earlier ++ line.0 ∷ []) lines
