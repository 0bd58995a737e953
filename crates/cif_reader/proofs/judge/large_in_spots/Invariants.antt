use Rattle.std.proofs.Common.{◌≡◌, drop}
use Rattle.std.specs.Prelude.{find, flat_map}
use Rattle.cif_reader.specs.Faults.{is_large, of_spot}
use Rattle.cif_reader.proofs.judge.large_in_spots.Given as goal

abbrev pub invariant-loop-spot : goal.invariant-loop-spot
invariant-loop-spot l = find is_large (flat_map of_spot l.spots) ≡ find is_large (flat_map of_spot (drop l.spot-index l.spots))
