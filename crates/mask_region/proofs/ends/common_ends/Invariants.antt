use Rattle.std.proofs.Common.{◌-◌, length}
use Rattle.mask_region.specs.Rows.{IsCommon}
use Rattle.mask_region.proofs.ends.common_ends.Given as goal

abbrev pub invariant-loop-k : goal.invariant-loop-k
invariant-loop-k l = IsCommon l.a l.b l.k

abbrev pub decreases-loop-k : goal.decreases-loop-k
decreases-loop-k l = length l.a - l.k
