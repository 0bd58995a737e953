use Rattle.std.proofs.Common.{◌≡◌, take}
use Rattle.cif_flatten.specs.Unrolling.{corners_of}
use Rattle.cif_flatten.proofs.corners.all_corners.Given as goal

abbrev pub invariant-loop-draw : goal.invariant-loop-draw
invariant-loop-draw l = l.points.items ≡ corners_of (take l.draw-index l.draws)
