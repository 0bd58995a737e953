-- Lines that follow as a derivation.
use Rattle.std.proofs.Common.{ℕ, ℤ, List, [], ◌∷◌, ◌++◌, sym, subst, append_assoc}
use Rattle.std.proofs.lemmas.List.{append-nil}
use Rattle.clause_base.specs.Formulas.{Clauses}
use Rattle.refutation_check.specs.Following.{IsDerivation}
use Rattle.proof_sinks.specs.declared.lines.Said.{Said}
use Rattle.proof_sinks.specs.Lines.{given_lines, derived_lines, proof_of}
use Rattle.proof_sinks.specs.Checking.{AllFollow}

-- the clauses that are given come before what follows
past_given : (earlier clauses : List (List ℤ)) (said : List Said) → AllFollow earlier (given_lines clauses ++ said) → AllFollow (earlier ++ clauses) said
past_given earlier [] said follow = subst (λ cs. AllFollow cs said) (sym (append-nil earlier)) follow
past_given earlier (clause ∷ clauses) said follow =
    subst (λ cs. AllFollow cs said) (append_assoc earlier (clause ∷ []) clauses) (past_given (earlier ++ clause ∷ []) clauses said follow.1)

of_derived : (earlier : List (List ℤ)) (lines : List (List ℤ × List ℕ)) → AllFollow earlier (derived_lines lines) → IsDerivation earlier lines
of_derived earlier [] follow = tt
of_derived earlier (line ∷ lines) follow = (follow.0, of_derived (earlier ++ line.0 ∷ []) lines follow.1)

pub derivation : (formula : Clauses) (lines : List (List ℤ × List ℕ)) → AllFollow [] (proof_of formula lines) → IsDerivation formula.clauses lines
derivation formula lines follow = of_derived formula.clauses lines (past_given [] formula.clauses (derived_lines lines) follow)
