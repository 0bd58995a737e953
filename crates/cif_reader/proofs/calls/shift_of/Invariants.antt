use Rattle.std.proofs.Common.{◌≡◌, ◌*◌, ◌^◌, drop, map}
use Rattle.plane_geom.specs.Bounds.{IsWithin}
use Rattle.plane_geom.specs.Placement.{moved}
use Rattle.cif_grammar.specs.Seen.{transform_of}
use Rattle.cif_reader.specs.Measure.{shift_of, steps_of}
use Rattle.cif_reader.proofs.calls.shift_of.Given as goal

abbrev pub invariant-loop-transformation : goal.invariant-loop-transformation
invariant-loop-transformation l = record {
  left : shift_of (map transform_of l.transformations) ≡ moved (steps_of (λ z. z) (map transform_of (drop l.transformation-index l.transformations))) (record { x = l.x; y = l.y });
  x_near : IsWithin (l.transformation-index * 2 ^ 33) l.x;
  y_near : IsWithin (l.transformation-index * 2 ^ 33) l.y;
}
