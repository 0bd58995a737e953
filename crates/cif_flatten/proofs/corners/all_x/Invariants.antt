use Rattle.std.proofs.Common.{◌≡◌, map, take}
use Rattle.plane_geom.specs.declared.shapes.Point.{Point}
use Rattle.cif_flatten.proofs.corners.all_x.Given as goal

abbrev pub invariant-loop-p : goal.invariant-loop-p
invariant-loop-p l = l.xs.items ≡ map (λ (p : Point). p.x) (take l.p-index l.points)
