use Rattle.std.proofs.Common.{◌≡◌}
use Rattle.clause_base.specs.Readers.{left_in_line, size_left}
use Rattle.clause_base.proofs.words.next_in_line.Given as goal

abbrev pub invariant-loop-rest : goal.invariant-loop-rest
invariant-loop-rest l = left_in_line l.rest ≡ left_in_line l.line

abbrev pub decreases-loop-rest : goal.decreases-loop-rest
decreases-loop-rest l = size_left l.rest
