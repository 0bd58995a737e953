use Rattle.std.proofs.Common.{take}
use Rattle.defect_sweep.specs.Reaching.{HoldsStrips}
use Rattle.defect_sweep.proofs.bounds.around_all.Given as goal

abbrev pub invariant-loop-strip : goal.invariant-loop-strip
invariant-loop-strip l = HoldsStrips l.bounds (take l.strip-index l.strips)
