use Rattle.std.proofs.Common.{◌+◌, ◌-◌, length}
use Rattle.mask_region.proofs.Rows.{AreAlikeSoFar}
use Rattle.mask_region.proofs.ends.are_alike_but.Given as goal

abbrev pub invariant-loop-x : goal.invariant-loop-x
invariant-loop-x l = AreAlikeSoFar l.old l.new l.other l.settling l.i l.j

abbrev pub decreases-loop-x : goal.decreases-loop-x
decreases-loop-x l = (length l.old - l.i) + (length l.new - l.j)
