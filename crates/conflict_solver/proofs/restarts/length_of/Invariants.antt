use Rattle.conflict_solver.proofs.restarts.length_of.Given as goal

abbrev pub decreases-loop-whole : goal.decreases-loop-whole
decreases-loop-whole l = l.whole
