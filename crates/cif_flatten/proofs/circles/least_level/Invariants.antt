use Rattle.std.proofs.Common.{take}
use Rattle.cif_flatten.specs.Ranking.{rank_of, FallsBefore}
use Rattle.cif_flatten.proofs.circles.least_level.Given as goal

abbrev pub invariant-loop-place : goal.invariant-loop-place
invariant-loop-place l = FallsBefore l.file.symbols (rank_of l.ranks) (take l.place l.file.symbols) l.least
