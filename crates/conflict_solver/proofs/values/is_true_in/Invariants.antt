use Rattle.std.proofs.Common.{◌≡◌, true, neg_ℤ, take, All}
use Rattle.clause_base.specs.Literals.{is_in}
use Rattle.conflict_solver.proofs.values.is_true_in.Given as goal

abbrev pub invariant-loop-lit : goal.invariant-loop-lit
invariant-loop-lit l = All (λ m. is_in l.trail.lits (neg_ℤ m) ≡ true) (take l.lit-index l.clause)
