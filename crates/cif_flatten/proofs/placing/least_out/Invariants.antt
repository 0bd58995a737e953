use Rattle.std.proofs.Common.{map, take}
use Rattle.cif_flatten.specs.Unrolling.{placed_of, IsLeastOut}
use Rattle.cif_flatten.proofs.placing.least_out.Given as goal

abbrev pub invariant-loop-command : goal.invariant-loop-command
invariant-loop-command l = IsLeastOut (map placed_of (take l.command-index l.commands)) l.least
