use Rattle.std.proofs.Common.{◌≡◌, map, take}
use Rattle.plane_geom.specs.Placement.{placed}
use Rattle.cif_flatten.proofs.placing.placed_path.Given as goal

abbrev pub invariant-loop-p : goal.invariant-loop-p
invariant-loop-p l = l.made.items ≡ map (placed l.place) (take l.p-index l.path)
