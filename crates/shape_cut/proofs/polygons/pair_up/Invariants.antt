use Rattle.std.proofs.Common.{◌-◌, length}
use Rattle.shape_cut.specs.Slabs.{IsPaired}
use Rattle.shape_cut.proofs.polygons.pair_up.Given as goal

abbrev pub invariant-loop-k : goal.invariant-loop-k
invariant-loop-k l = IsPaired l.fn.rects.items l.ends l.k l.y0 l.y1 l.rects.items

abbrev pub decreases-loop-k : goal.decreases-loop-k
decreases-loop-k l = length l.ends - l.k
