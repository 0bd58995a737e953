use Rattle.std.proofs.Common.{◌^◌}
use Rattle.std.specs.Prelude.{pos, ◌-ℤ◌, unsigned_abs}
use Rattle.shape_cut.proofs.Slabs.{IsCutTo}
use Rattle.shape_cut.proofs.polygons.cut_polygon.Given as goal

abbrev pub invariant-loop-next : goal.invariant-loop-next
invariant-loop-next l = IsCutTo l.points l.y l.rects.items

abbrev pub decreases-loop-next : goal.decreases-loop-next
decreases-loop-next l = unsigned_abs (pos (2 ^ 24) -ℤ l.y)
