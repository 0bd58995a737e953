use Rattle.conflict_solver.specs.Setting.{AreTrue}
use Rattle.conflict_solver.proofs.solving.all_true.Given as goal

abbrev pub invariant-loop-place : goal.invariant-loop-place
invariant-loop-place l = AreTrue l.trail l.place
