use Rattle.std.proofs.Common.{drop}
use Rattle.mask_region.proofs.Banding.{IsRowBut}
use Rattle.mask_region.proofs.bands.read_row.Given as goal

abbrev pub invariant-loop-k : goal.invariant-loop-k
invariant-loop-k l = IsRowBut (drop l.i l.strips) (drop l.k l.strips) l.y l.ends.items
