use Rattle.std.proofs.Common.{◌≡◌, ◌^◌, ◌++◌, drop}
use Rattle.std.specs.Prelude.{flat_map}
use Rattle.plane_geom.specs.Bounds.{IsPointWithin}
use Rattle.plane_geom.specs.Covering.{edges_from, widened}
use Rattle.cif_flatten.specs.Faults.{rect_corners}
use Rattle.cif_flatten.proofs.corners.add_wire_corners.Given as goal

abbrev pub invariant-loop-to : goal.invariant-loop-to
invariant-loop-to l = record {
  near : IsPointWithin (2 ^ 60) l.from;
  whole : l.points.items ++ flat_map (λ s. rect_corners (widened l.half s)) (edges_from l.from (drop l.to-index l.rest)) ≡ l.fn.points.items ++ flat_map (λ s. rect_corners (widened l.half s)) (edges_from l.initial.from l.rest);
}
