use Rattle.std.proofs.Common.{take}
use Rattle.mask_region.specs.Sweeping.{ArePassed}
use Rattle.mask_region.proofs.bands.pass.Given as goal

abbrev pub invariant-loop-k : goal.invariant-loop-k
invariant-loop-k l = ArePassed (take l.k l.strips) l.y
