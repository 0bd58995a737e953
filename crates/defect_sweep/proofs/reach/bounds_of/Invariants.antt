use Rattle.defect_sweep.proofs.Holding.{HoldsFirst}
use Rattle.defect_sweep.proofs.reach.bounds_of.Given as goal

abbrev pub invariant-loop-region : goal.invariant-loop-region
invariant-loop-region l = HoldsFirst l.bounds l.regions l.region-index
