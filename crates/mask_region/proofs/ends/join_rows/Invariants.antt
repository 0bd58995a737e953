use Rattle.std.proofs.Common.{◌+◌, ◌-◌, length}
use Rattle.mask_region.proofs.Rows.{AreJoinedRows}
use Rattle.mask_region.proofs.ends.join_rows.Given as goal

abbrev pub invariant-loop-x : goal.invariant-loop-x
invariant-loop-x l = AreJoinedRows l.op l.a l.b l.i l.j l.out.items

abbrev pub decreases-loop-x : goal.decreases-loop-x
decreases-loop-x l = (length l.a - l.i) + (length l.b - l.j)
