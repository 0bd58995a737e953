use Rattle.std.proofs.Common.{take}
use Rattle.cif_flatten.specs.Reaching.{IsLeastAmong}
use Rattle.cif_flatten.proofs.circles.least_circle.Given as goal

abbrev pub invariant-loop-place : goal.invariant-loop-place
invariant-loop-place l = IsLeastAmong l.file.symbols (take l.place l.file.symbols) l.least
