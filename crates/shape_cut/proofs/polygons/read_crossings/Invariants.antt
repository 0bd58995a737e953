use Rattle.std.proofs.Common.{drop}
use Rattle.shape_cut.proofs.Crossings.{AreCrossingsBut}
use Rattle.shape_cut.proofs.polygons.read_crossings.Given as goal

abbrev pub invariant-loop-k : goal.invariant-loop-k
invariant-loop-k l = AreCrossingsBut l.points l.first (drop l.k l.points) l.y l.from l.ends.items
