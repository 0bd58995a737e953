-- What the verdict on a formula says.
use Rattle.std.specs.Prelude.{◌≡◌, ℕ, ℤ, Bool, List, length}
use Rattle.clause_base.specs.Formulas.{Clauses}
use Rattle.clause_base.specs.Solving.{is_true_under, Solves}
use Rattle.refutation_check.specs.Deriving.{AreDerived, EndsEmpty, AreExhausted}
use Rattle.proof_sinks.specs.declared.lines.Said.{Said}
use Rattle.proof_sinks.specs.Lines.{proof_of}
use Rattle.conflict_solver.specs.declared.verdict.Verdict.{Verdict}
use Rattle.conflict_solver.specs.declared.verdict.Verdict.TheVariants.{Values, Refuted, Undecided}

-- There is a value for each variable, and they make a literal of each clause true.
pub record AreSolution (formula : Clauses) (values : List Bool) : Type 0 where
  pub each : length values ≡ formula.vars
  pub solve : Solves (is_true_under values) formula.clauses

-- what each verdict says of the formula and of the lines that were derived
abbrev pub IsVerdict : Clauses → ℕ → List (List ℤ × List ℕ) → Verdict → Type 0
IsVerdict formula budget lines (Values values) = AreSolution formula values.items
IsVerdict formula budget lines Refuted = EndsEmpty lines
IsVerdict formula budget lines Undecided = AreExhausted formula budget lines

-- all clauses were given, then lines were derived that bear out the verdict
pub record IsAnswered (formula : Clauses) (budget : ℕ) (said : List Said) (verdict : Verdict) : Type 0 where
  pub lines : List (List ℤ × List ℕ)
  pub whole : said ≡ proof_of formula lines
  pub derived : AreDerived formula budget lines
  pub verdict_holds : IsVerdict formula budget lines verdict
