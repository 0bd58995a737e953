use Rattle.std.proofs.Common.{take}
use Rattle.shape_cut.specs.Slabs.{IsNextCornerRow}
use Rattle.shape_cut.proofs.polygons.next_row.Given as goal

abbrev pub invariant-loop-p : goal.invariant-loop-p
invariant-loop-p l = IsNextCornerRow l.points (take l.p-index l.points) l.y l.next
