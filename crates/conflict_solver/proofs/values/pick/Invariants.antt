use Rattle.std.proofs.Common.{length}
use Rattle.conflict_solver.proofs.values.pick.Given as goal

abbrev pub decreases-loop-variable : goal.decreases-loop-variable
decreases-loop-variable l = length l.order.heap.items
