use Rattle.conflict_solver.specs.Setting.{AreSet}
use Rattle.conflict_solver.proofs.values.first_unset.Given as goal

abbrev pub invariant-loop-place : goal.invariant-loop-place
invariant-loop-place l = AreSet l.trail l.place
