use Rattle.defect_sweep.proofs.Reached.{AreCounted}
use Rattle.defect_sweep.proofs.net_reach.count_pair.Given as goal

abbrev pub invariant-loop-wire : goal.invariant-loop-wire
invariant-loop-wire l = AreCounted l.sides l.first l.second l.wire l.total l.on.items
