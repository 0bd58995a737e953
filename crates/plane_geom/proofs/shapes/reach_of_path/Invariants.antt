use Rattle.plane_geom.proofs.Reaching.{IsHull}
use Rattle.plane_geom.proofs.shapes.reach_of_path.Given as goal

abbrev pub invariant-loop-p : goal.invariant-loop-p
invariant-loop-p l = IsHull l.points l.p-index l.reach
