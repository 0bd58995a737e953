-- Worked values of the definitions, each computed, and instances that hold or are refused.
use Rattle.std.proofs.Common.{◌≡◌, pos, negsuc, true, false, [], ◌∷◌, refl, arith}
use Rattle.clause_base.specs.Solving.{is_true_under, IsTrueUnder}
use Rattle.clause_base.proofs.Instances.{all}
use Rattle.clause_base.proofs.Worked.{square}
use Rattle.refutation_check.proofs.Worked.{refutation}
use Rattle.refutation_check.proofs.WorkedLines.{squares}
use Rattle.proof_sinks.specs.declared.lines.Said.TheVariants.{Axiom, Derived}
use Rattle.proof_sinks.specs.Lines.{proof_of}
use Rattle.conflict_solver.specs.Deriving.{AreGiven}
use Rattle.conflict_solver.specs.Answering.{AreSolution}

-- ---- lines

said : proof_of squares refutation
    ≡ Axiom (pos 1 ∷ pos 2 ∷ []) ∷ Axiom (pos 1 ∷ negsuc 1 ∷ []) ∷ Axiom (negsuc 0 ∷ pos 2 ∷ []) ∷ Axiom (negsuc 0 ∷ negsuc 1 ∷ []) ∷ Derived (pos 1 ∷ []) (1 ∷ 2 ∷ []) ∷ Derived [] (5 ∷ 3 ∷ 4 ∷ []) ∷ []
unfolding squares square refutation
said = refl

half_given : AreGiven squares (Axiom (pos 1 ∷ pos 2 ∷ []) ∷ Axiom (pos 1 ∷ negsuc 1 ∷ []) ∷ [])
unfolding squares square
half_given = record { count = 2; front = refl }

-- ---- values

solution : AreSolution (record { vars = 2; clauses = (pos 1 ∷ pos 2 ∷ []) ∷ (negsuc 0 ∷ pos 2 ∷ []) ∷ [] }) (false ∷ true ∷ [])
solution = record { each = refl; solve = all (IsTrueUnder (is_true_under (false ∷ true ∷ []))) ((pos 1 ∷ pos 2 ∷ []) ∷ (negsuc 0 ∷ pos 2 ∷ []) ∷ []) ((1, pos 2, omega arith, refl, refl), ((0, negsuc 0, omega arith, refl, refl), tt)) }

a_value_lacks : AreSolution squares (true ∷ []) → ⊥
unfolding squares
a_value_lacks s = omega (arith, s.each)
