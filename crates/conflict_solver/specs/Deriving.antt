-- What a search has said so far: clauses of the formula that were given, and lines that were derived from them.
use Rattle.std.specs.Prelude.{◌≡◌, ◌⊎◌, ℕ, ℤ, List, take}
use Rattle.clause_base.specs.Formulas.{Clauses}
use Rattle.refutation_check.specs.Deriving.{AreDerived}
use Rattle.proof_sinks.specs.declared.lines.Said.{Said}
use Rattle.proof_sinks.specs.Lines.{given_lines, proof_of}

-- the first clauses of the formula were given
pub record AreGiven (formula : Clauses) (said : List Said) : Type 0 where
  pub count : ℕ
  pub front : said ≡ given_lines (take count formula.clauses)

-- all were given, and lines were derived
pub record IsProof (formula : Clauses) (budget : ℕ) (said : List Said) : Type 0 where
  pub lines : List (List ℤ × List ℕ)
  pub whole : said ≡ proof_of formula lines
  pub derived : AreDerived formula budget lines

-- what may be said so far
abbrev pub IsProofSoFar : Clauses → ℕ → List Said → Type 0
IsProofSoFar formula budget said = AreGiven formula said ⊎ IsProof formula budget said
