use Rattle.conflict_solver.proofs.order.Order.rise.Given as goal

abbrev pub decreases-loop-index : goal.decreases-loop-index
decreases-loop-index l = l.index
