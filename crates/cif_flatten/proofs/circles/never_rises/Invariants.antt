use Rattle.std.proofs.Common.{take}
use Rattle.cif_flatten.specs.Ranking.{rank_of, NeverRises}
use Rattle.cif_flatten.proofs.circles.never_rises.Given as goal

abbrev pub invariant-loop-place : goal.invariant-loop-place
invariant-loop-place l = NeverRises l.file.symbols (rank_of l.ranks) (take l.place l.file.symbols)
