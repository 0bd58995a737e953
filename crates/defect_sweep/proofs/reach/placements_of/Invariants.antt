use Rattle.defect_sweep.proofs.Placing.{ArePlaced}
use Rattle.defect_sweep.proofs.reach.placements_of.Given as goal

abbrev pub invariant-loop-side : goal.invariant-loop-side
invariant-loop-side l = ArePlaced l.sides l.region l.side-index l.placements.items
