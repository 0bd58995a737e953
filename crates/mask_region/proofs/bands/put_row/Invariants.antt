use Rattle.std.proofs.Common.{◌-◌, length}
use Rattle.mask_region.proofs.Putting.{ArePut}
use Rattle.mask_region.proofs.bands.put_row.Given as goal

abbrev pub invariant-loop-k : goal.invariant-loop-k
invariant-loop-k l = ArePut l.fn.out.items l.row l.k l.y0 l.y1 l.out.items

abbrev pub decreases-loop-k : goal.decreases-loop-k
decreases-loop-k l = length l.row - l.k
