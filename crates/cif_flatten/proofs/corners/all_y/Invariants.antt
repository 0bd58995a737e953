use Rattle.std.proofs.Common.{◌≡◌, map, take}
use Rattle.plane_geom.specs.declared.shapes.Point.{Point}
use Rattle.cif_flatten.proofs.corners.all_y.Given as goal

abbrev pub invariant-loop-p : goal.invariant-loop-p
invariant-loop-p l = l.ys.items ≡ map (λ (p : Point). p.y) (take l.p-index l.points)
