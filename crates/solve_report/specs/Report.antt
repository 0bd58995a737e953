-- The text of a `solve` report.
use Rattle.std.specs.Prelude.{◌≡◌, ◌⊎◌, ℕ, ℤ, pos, neg_ℤ, Bool, if◌then◌else◌, List, [], ◌∷◌, ◌++◌, length, map, codes, Option}
use Rattle.std.specs.List.{concat, enumerate_from, AllZip}
use Rattle.std.specs.Fmt.{decimal}
use Rattle.probe_io.specs.Written.{Appends, AppendsFront}
use Rattle.clause_base.specs.Literals.{IsRising}
use Rattle.clause_base.specs.Formulas.{Clauses}
use Rattle.clause_base.specs.Novelty.{HaveSame}
use Rattle.clause_base.specs.ClauseText.{clause_text}
use Rattle.proof_sinks.specs.declared.lines.Said.{Said}
use Rattle.proof_sinks.specs.Text.{text_of}
use Rattle.conflict_solver.specs.declared.verdict.Verdict.{Verdict}
use Rattle.conflict_solver.specs.declared.verdict.Verdict.TheVariants.{Values, Refuted, Undecided}
use Rattle.conflict_solver.specs.Deriving.{IsProofSoFar}
use Rattle.conflict_solver.specs.Answering.{AreSolution, IsAnswered}
use Rattle.solve_report.specs.declared.ending.Ending.{Ending}
use Rattle.solve_report.specs.declared.ending.Ending.TheVariants.{Decided, Undecided as Unfinished}

-- ---- the formula

-- the second clause has the literals of the first, in rising order and each once
pub record IsSortedClause (clause sorted : List ℤ) : Type 0 where
  pub same : HaveSame clause sorted
  pub rising : IsRising sorted

-- The formula has the variables of the file's and its clauses, in their order, each one sorted.
pub record IsSortedForm (file formula : Clauses) : Type 0 where
  pub vars : formula.vars ≡ file.vars
  pub clauses : AllZip IsSortedClause file.clauses formula.clauses

-- ---- the lines

-- the budget, the number of variables and that of clauses, behind the command
unfoldable pub numbers_text : ℕ → ℕ → ℕ → List ℕ
numbers_text budget vars clauses =
    concat (codes "carafe solve 1\nbudget " ∷ decimal budget ∷ codes "\nformula " ∷ decimal vars ∷ codes " " ∷ decimal clauses ∷ codes "\n" ∷ [])

-- the lines before the clauses
abbrev pub header : ℕ → Clauses → List ℕ
header budget formula = numbers_text budget formula.vars (length formula.clauses)

-- the literal of this variable that is true where the variable has this value
abbrev pub literal_of : ℕ → Bool → ℤ
literal_of variable value = if value then pos variable else neg_ℤ (pos variable)

-- the true literal of each variable, from 1, given the variables' values
abbrev pub true_literals : List Bool → List ℤ
true_literals values = map (λ at. literal_of at.0 at.1) (enumerate_from 1 values)

-- the line of values: the true literal of each variable
unfoldable pub values_line : List Bool → List ℕ
values_line values = concat (codes "values " ∷ clause_text (true_literals values) ∷ codes "\n" ∷ [])

-- the last line
abbrev pub verdict_line : Verdict → List ℕ
verdict_line (Values values) = values_line values.items
verdict_line Refuted = codes "refuted\n"
verdict_line Undecided = codes "undecided\n"

-- ---- the report

-- how a search with this verdict ends
abbrev pub ending_of : Verdict → Ending
ending_of (Values values) = Decided
ending_of Refuted = Decided
ending_of Undecided = Unfinished

-- values in a verdict solve the formula
abbrev pub SolvesWhereValues : Clauses → Verdict → Type 0
SolvesWhereValues formula (Values values) = AreSolution formula values.items
SolvesWhereValues formula Refuted = Unit {0}
SolvesWhereValues formula Undecided = Unit {0}

-- The text is a report on a search over the file's formula: its sorted form, the lines that answer that with a verdict, and
-- the verdict. Values solve the file's own formula.
pub record IsSolveReport (file : Clauses) (budget : ℕ) (ending : Ending) (text : List ℕ) : Type 0 where
  pub formula : Clauses
  pub sorted : IsSortedForm file formula
  pub said : List Said
  pub verdict : Verdict
  pub answered : IsAnswered formula budget said verdict
  pub whole : text ≡ header budget formula ++ (text_of said ++ verdict_line verdict)
  pub solution : SolvesWhereValues file verdict
  pub ends : ending ≡ ending_of verdict

-- the text is a report on such a search so far, with no verdict
pub record IsReportSoFar (file : Clauses) (budget : ℕ) (text : List ℕ) : Type 0 where
  pub formula : Clauses
  pub sorted : IsSortedForm file formula
  pub said : List Said
  pub whole : text ≡ header budget formula ++ text_of said
  pub so_far : IsProofSoFar formula budget said

-- the text is a report, or one so far
abbrev pub IsReportOrSoFar : Clauses → ℕ → List ℕ → Type 0
IsReportOrSoFar file budget text = IsReportSoFar file budget text ⊎ ((ending : Ending) × IsSolveReport file budget ending text)

-- ---- what a call writes

-- a report was appended
pub record WritesReport (file : Clauses) (budget : ℕ) (ending : Ending) (old new : Option (List ℕ)) : Type 0 where
  pub text : List ℕ
  pub report : IsSolveReport file budget ending text
  pub written : Appends old new text

-- a report so far was appended
pub record AppendsReportSoFar (file : Clauses) (budget : ℕ) (old new : Option (List ℕ)) : Type 0 where
  pub text : List ℕ
  pub report : IsReportSoFar file budget text
  pub written : Appends old new text

-- nothing was written, or a report so far
abbrev pub WritesReportSoFar : Clauses → ℕ → Option (List ℕ) → Option (List ℕ) → Type 0
WritesReportSoFar file budget old new = (new ≡ old) ⊎ AppendsReportSoFar file budget old new

-- a prefix of a report, or of one so far, was appended
pub record AppendsReportFront (file : Clauses) (budget : ℕ) (old new : Option (List ℕ)) : Type 0 where
  pub text : List ℕ
  pub report : IsReportOrSoFar file budget text
  pub written : AppendsFront old new text
