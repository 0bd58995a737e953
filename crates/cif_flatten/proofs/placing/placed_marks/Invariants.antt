use Rattle.std.proofs.Common.{◌≡◌, ◌^◌, map, take}
use Rattle.std.specs.List.{All}
use Rattle.plane_geom.specs.Bounds.{IsPointWithin}
use Rattle.cif_flatten.specs.declared.flat.Mark.{Mark}
use Rattle.cif_flatten.specs.Unfolding.{marked}
use Rattle.cif_flatten.specs.Flattening.{marked_of}
use Rattle.cif_flatten.specs.Unrolling.{placed_of}
use Rattle.cif_flatten.proofs.placing.placed_marks.Given as goal

abbrev pub invariant-loop-command : goal.invariant-loop-command
invariant-loop-command l = record {
  marks : map marked_of l.marks.items ≡ marked (map placed_of (take l.command-index l.commands));
  within : All (λ (m : Mark). IsPointWithin (2 ^ 24) m.at) l.marks.items;
}
