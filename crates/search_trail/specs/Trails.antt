-- The trail of a search: the literals that are taken to be true, in their order. Clauses count from 1.
use Rattle.std.specs.Prelude.{◌≡◌, ℕ, ◌<◌, ℤ, Option, Some, None, List, [], ◌∷◌, ◌++◌, length, take, slice_index_or, All, Contains}
use Rattle.clause_base.specs.Literals.{is_in, lit_at}
use Rattle.clause_base.specs.Formulas.{IsClauseWithin}
use Rattle.clause_base.specs.Plain.{IsOnce}
use Rattle.clause_base.specs.Teaching.{AllButNegated}
use Rattle.refutation_check.specs.Following.{IsNumber, numbered}

-- The clauses of a search, the literals on its trail, for each the number of the clause that made it true, or none for
-- a decision, and the place of the first literal of each level above 0. Places count from 0.
pub record Search : Type 0 where
  pub vars : ℕ
  pub clauses : List (List ℤ)
  pub lits : List ℤ
  pub reasons : List (Option ℕ)
  pub starts : List ℕ

-- what made the literal at this place true
abbrev pub reason_at : List (Option ℕ) → ℕ → Option ℕ
reason_at reasons place = slice_index_or reasons place None

-- where this level begins
abbrev pub start_at : List ℕ → ℕ → ℕ
start_at starts level = slice_index_or starts level 0

-- The clause of this number has the literal, and the negation of each other literal is on the trail before it.
pub record IsReason (clauses : List (List ℤ)) (before : List ℤ) (lit : ℤ) (number : ℕ) : Type 0 where
  pub known : IsNumber clauses number
  pub there : Contains (numbered clauses number) lit
  pub others : AllButNegated (is_in before) (numbered clauses number) lit

-- The first literal of each level above 0 is a decision, and every other has a reason.
pub record AreReasoned (clauses : List (List ℤ)) (lits : List ℤ) (reasons : List (Option ℕ)) (starts : List ℕ) : Type 0 where
  pub paired : length reasons ≡ length lits
  pub implied : (place number : ℕ) → place < length lits → reason_at reasons place ≡ Some number → IsReason clauses (take place lits) (lit_at lits place) number
  pub decided : (place : ℕ) → place < length lits → reason_at reasons place ≡ None → Contains starts place
  pub begun : (place : ℕ) → Contains starts place → reason_at reasons place ≡ None

-- Each level above 0 begins on the trail, behind the one before.
pub record AreStarts (starts : List ℕ) (size : ℕ) : Type 0 where
  pub rising : (i j : ℕ) → i < j → j < length starts → start_at starts i < start_at starts j
  pub inside : (j : ℕ) → j < length starts → start_at starts j < size

-- what a trail keeps true
pub record IsTrail (vars : ℕ) (clauses : List (List ℤ)) (lits : List ℤ) (reasons : List (Option ℕ)) (starts : List ℕ) : Type 0 where
  pub within : All (IsClauseWithin vars) clauses
  pub small : IsClauseWithin vars lits
  pub once : IsOnce lits
  pub reasoned : AreReasoned clauses lits reasons starts
  pub levels : AreStarts starts (length lits)

abbrev pub IsSearch : Search → Type 0
IsSearch s = IsTrail s.vars s.clauses s.lits s.reasons s.starts

-- no clause and no literal
abbrev pub nothing_known : ℕ → Search
nothing_known vars = record { vars = vars; clauses = []; lits = []; reasons = []; starts = [] }

-- one clause more
abbrev pub with_clause : Search → List ℤ → Search
with_clause s clause = record { vars = s.vars; clauses = s.clauses ++ clause ∷ []; lits = s.lits; reasons = s.reasons; starts = s.starts }

-- the literal joins the trail as the first of a new level
abbrev pub with_decision : Search → ℤ → Search
with_decision s lit = record { vars = s.vars; clauses = s.clauses; lits = s.lits ++ lit ∷ []; reasons = s.reasons ++ None ∷ []; starts = s.starts ++ length s.lits ∷ [] }

-- the literal joins the current level, by the clause of this number
abbrev pub with_implied : Search → ℤ → ℕ → Search
with_implied s lit number = record { vars = s.vars; clauses = s.clauses; lits = s.lits ++ lit ∷ []; reasons = s.reasons ++ Some number ∷ []; starts = s.starts }

-- how many literals stand on this level or below
abbrev pub front_size : Search → ℕ → ℕ
front_size s level = slice_index_or s.starts level (length s.lits)

-- the literals on this level or below
abbrev pub front : Search → ℕ → List ℤ
front s level = take (front_size s level) s.lits

-- the levels above this one leave the trail
abbrev pub back_at : Search → ℕ → Search
back_at s level = record { vars = s.vars; clauses = s.clauses; lits = front s level; reasons = take (front_size s level) s.reasons; starts = take level s.starts }
