use Rattle.conflict_solver.specs.Setting.{AreValues}
use Rattle.conflict_solver.proofs.values.values_of.Given as goal

abbrev pub invariant-loop-place : goal.invariant-loop-place
invariant-loop-place l = AreValues l.trail l.place l.values.items
