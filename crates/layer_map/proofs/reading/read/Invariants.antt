use Rattle.std.proofs.Common.{◌+◌, ◌≤◌, length}
use Rattle.layer_map.proofs.Walk.{Reached}
use Rattle.layer_map.proofs.reading.read.Given as goal

abbrev pub invariant-loop-line : goal.invariant-loop-line
invariant-loop-line l = Reached l.bytes l.rest l.map l.number × (l.number + length l.rest ≤ length l.bytes)

abbrev pub decreases-loop-line : goal.decreases-loop-line
decreases-loop-line l = length l.rest
