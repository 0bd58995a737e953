use Rattle.std.proofs.Common.{◌≡◌, ◌^◌, map, take}
use Rattle.std.specs.List.{All}
use Rattle.cif_flatten.specs.declared.flat.Draw.{Draw}
use Rattle.cif_flatten.specs.Flat.{IsShapeWithin}
use Rattle.cif_flatten.specs.Unfolding.{drawn}
use Rattle.cif_flatten.specs.Flattening.{drawn_of}
use Rattle.cif_flatten.specs.Unrolling.{placed_of, AreRoomy}
use Rattle.cif_flatten.proofs.placing.placed_draws.Given as goal

abbrev pub invariant-loop-command : goal.invariant-loop-command
invariant-loop-command l = record {
  draws : map drawn_of l.draws.items ≡ drawn (map placed_of (take l.command-index l.commands));
  within : All (λ (d : Draw). IsShapeWithin (2 ^ 24) d.shape) l.draws.items;
  roomy : AreRoomy l.draws.items;
}
