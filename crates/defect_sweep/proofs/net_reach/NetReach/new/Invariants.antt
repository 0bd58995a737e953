use Rattle.defect_sweep.proofs.Reached.{AreReached}
use Rattle.defect_sweep.proofs.net_reach.NetReach.new.Given as goal

abbrev pub invariant-loop-region : goal.invariant-loop-region
invariant-loop-region l = AreReached l.sides l.regions l.region-index l.on.items l.bounds
