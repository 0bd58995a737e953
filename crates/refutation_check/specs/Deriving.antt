-- Lists of lines that are derived from clauses one after the other. A line is a clause and its hints.
use Rattle.std.specs.Prelude.{◌≡◌, ◌≢◌, ◌⊎◌, ℕ, ◌≤◌, ℤ, nat_lt, List, [], ◌∷◌, ◌++◌, length, map, All}
use Rattle.std.specs.List.{count_by}
use Rattle.clause_base.specs.Formulas.{Clauses}
use Rattle.clause_base.specs.Novelty.{AreNew}
use Rattle.clause_base.specs.Plain.{IsPlain}
use Rattle.clause_base.specs.Teaching.{Teaches, IsOpen}
use Rattle.refutation_check.specs.Following.{Follows, IsDerivation}
use Rattle.refutation_check.specs.Keeping.{Kept, with_derived}

-- the clauses of the lines, in their order
abbrev pub line_clauses : List (List ℤ × List ℕ) → List (List ℤ)
line_clauses lines = map (λ line. line.0) lines

-- how many lines aren't empty
abbrev pub filled_lines : List (List ℤ × List ℕ) → ℕ
filled_lines lines = count_by (λ line. nat_lt 0 (length line.0)) lines

-- Each line that isn't empty teaches unit propagation something that the clauses and the lines before it don't.
abbrev pub AllTeach : List (List ℤ) → List (List ℤ × List ℕ) → Type 0
AllTeach earlier [] = Unit {0}
AllTeach earlier (line ∷ lines) = ((line.0 ≡ []) ⊎ Teaches earlier line.0) × AllTeach (earlier ++ line.0 ∷ []) lines

-- Each line has another set of literals than the clauses and the lines before it.
abbrev pub AllNew : List (List ℤ) → List (List ℤ × List ℕ) → Type 0
AllNew earlier lines = AreNew earlier (line_clauses lines)

-- Each line follows from the formula's clauses and the lines before it, and each that isn't empty teaches. At most
-- `budget` of them aren't empty.
pub record AreDerived (formula : Clauses) (budget : ℕ) (lines : List (List ℤ × List ℕ)) : Type 0 where
  pub follow : IsDerivation formula.clauses lines
  pub teach : AllTeach formula.clauses lines
  pub plain : All (λ line. IsPlain formula.vars line.0) lines
  pub few : filled_lines lines ≤ budget

-- The last line is empty, and no line before it is.
pub record EndsEmpty (lines : List (List ℤ × List ℕ)) : Type 0 where
  pub front : List (List ℤ × List ℕ)
  pub hints : List ℕ
  pub whole : lines ≡ front ++ ([], hints) ∷ []
  pub filled : All (λ line. line.0 ≢ []) front

-- There are exactly `budget` lines, none of them empty and each new, and unit propagation alone refutes the clauses
-- and the lines not.
pub record AreExhausted (formula : Clauses) (budget : ℕ) (lines : List (List ℤ × List ℕ)) : Type 0 where
  pub count : length lines ≡ budget
  pub filled : All (λ line. line.0 ≢ []) lines
  pub new : AllNew formula.clauses lines
  pub undecided : IsOpen (formula.clauses ++ line_clauses lines)

-- A checker accepted these lines one after the other: each followed from the clauses that it kept by then.
abbrev pub AreAccepted : Kept → List (List ℤ × List ℕ) → Kept → Type 0
AreAccepted old [] new = new ≡ old
AreAccepted old (line ∷ lines) new = Follows old.clauses line.0 line.1 × AreAccepted (with_derived old line.0) lines new
