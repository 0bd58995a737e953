use Rattle.std.proofs.Common.{◌≡◌, ◌++◌, length}
use Rattle.cif_grammar.specs.Readers.{more_points_at}
use Rattle.cif_grammar.proofs.path.more_points_of.Given as goal

abbrev pub invariant-loop-point : goal.invariant-loop-point
invariant-loop-point l = let last = more_points_at l.total l.rest in more_points_at l.total l.bytes ≡ (l.points.items ++ last.0, last.1)

abbrev pub decreases-loop-point : goal.decreases-loop-point
decreases-loop-point l = length l.rest
