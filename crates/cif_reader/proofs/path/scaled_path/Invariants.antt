use Rattle.std.proofs.Common.{◌≡◌, take, map, ◌∷◌}
use Rattle.cif_reader.specs.Measure.{point_of, scaled_point}
use Rattle.cif_reader.proofs.path.scaled_path.Given as goal

abbrev pub invariant-loop-spot : goal.invariant-loop-spot
invariant-loop-spot l = l.points.items ≡ map (λ p. scaled_point l.scale (point_of p)) (l.path.first ∷ take l.spot-index l.path.others.items)
