-- What a search writes to a sink of text.
use Rattle.std.specs.Prelude.{ℕ, List, Option}
use Rattle.probe_io.specs.Written.{Appends, AppendsFront}
use Rattle.clause_base.specs.Formulas.{Clauses}
use Rattle.proof_sinks.specs.declared.lines.Said.{Said}
use Rattle.proof_sinks.specs.Text.{text_of}
use Rattle.conflict_solver.specs.declared.verdict.Verdict.{Verdict}
use Rattle.conflict_solver.specs.Deriving.{IsProofSoFar}
use Rattle.conflict_solver.specs.Answering.{IsAnswered}

-- the proof of a verdict was appended
pub record WritesProof (formula : Clauses) (budget : ℕ) (verdict : Verdict) (old new : Option (List ℕ)) : Type 0 where
  pub said : List Said
  pub answered : IsAnswered formula budget said verdict
  pub written : Appends old new (text_of said)

-- a prefix of a proof so far was appended
pub record WritesProofFront (formula : Clauses) (budget : ℕ) (old new : Option (List ℕ)) : Type 0 where
  pub said : List Said
  pub so_far : IsProofSoFar formula budget said
  pub written : AppendsFront old new (text_of said)

-- the whole text of a proof so far was appended
pub record WritesProofSoFar (formula : Clauses) (budget : ℕ) (old new : Option (List ℕ)) : Type 0 where
  pub said : List Said
  pub so_far : IsProofSoFar formula budget said
  pub written : Appends old new (text_of said)
