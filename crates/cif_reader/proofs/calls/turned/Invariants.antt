use Rattle.std.proofs.Common.{take, map}
use Rattle.std.specs.Prelude.{flat_map}
use Rattle.plane_geom.specs.Placement.{IsPlaceOf, IsShiftWithin}
use Rattle.cif_grammar.specs.Seen.{transform_of}
use Rattle.cif_reader.specs.Near.{turns_once}
use Rattle.cif_reader.proofs.calls.turned.Given as goal

abbrev pub invariant-loop-transformation : goal.invariant-loop-transformation
invariant-loop-transformation l = record {
  place : IsPlaceOf (flat_map turns_once (map transform_of (take l.transformation-index l.transformations))) l.place;
  still : IsShiftWithin 0 l.place;
}
