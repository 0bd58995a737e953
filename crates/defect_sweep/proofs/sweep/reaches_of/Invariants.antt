use Rattle.defect_sweep.proofs.Spreading.{AreSpreadTo}
use Rattle.defect_sweep.proofs.sweep.reaches_of.Given as goal

abbrev pub invariant-loop-net : goal.invariant-loop-net
invariant-loop-net l = AreSpreadTo l.sides l.wires l.regions l.net l.reaches.items
