use Rattle.std.proofs.Common.{◌^◌}
use Rattle.std.specs.Prelude.{pos, ◌-ℤ◌, unsigned_abs}
use Rattle.mask_region.proofs.Joins.{AreJoinedTo}
use Rattle.mask_region.proofs.bands.join.Given as goal

abbrev pub invariant-loop-next : goal.invariant-loop-next
invariant-loop-next l = AreJoinedTo l.op l.a l.b l.first.index l.second.index l.y l.first.row.items l.second.row.items l.out.items l.held.items l.from

abbrev pub decreases-loop-next : goal.decreases-loop-next
decreases-loop-next l = unsigned_abs (pos (2 ^ 25) -ℤ l.y)
