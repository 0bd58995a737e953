-- The clause of a line, and the lines of a proof.
use Rattle.std.specs.Prelude.{ℕ, ℤ, List, ◌++◌, map}
use Rattle.clause_base.specs.Formulas.{Clauses}
use Rattle.proof_sinks.specs.declared.lines.Said.{Said}
use Rattle.proof_sinks.specs.declared.lines.Said.TheVariants.{Axiom, Derived}

abbrev pub clause_of : Said → List ℤ
clause_of (Axiom clause) = clause
clause_of (Derived clause hints) = clause

-- the clauses of the lines, in their order
abbrev pub clauses_of : List Said → List (List ℤ)
clauses_of said = map clause_of said

-- the lines of a proof that give these clauses
abbrev pub given_lines : List (List ℤ) → List Said
given_lines clauses = map (λ clause. Axiom clause) clauses

-- the lines of a proof that derive these
abbrev pub derived_lines : List (List ℤ × List ℕ) → List Said
derived_lines lines = map (λ line. Derived line.0 line.1) lines

-- the proof that gives the formula's clauses and then derives these lines
abbrev pub proof_of : Clauses → List (List ℤ × List ℕ) → List Said
proof_of formula lines = given_lines formula.clauses ++ derived_lines lines
