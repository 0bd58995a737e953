use Rattle.std.proofs.Common.{◌≡◌}
use Rattle.clause_base.specs.Readers.{left, size_left}
use Rattle.clause_base.proofs.words.Words.next.Given as goal

abbrev pub invariant-loop-word : goal.invariant-loop-word
invariant-loop-word l = (left l.self ≡ left l.fn.self) × (l.self.end ≡ l.fn.self.end)

abbrev pub decreases-loop-word : goal.decreases-loop-word
decreases-loop-word l = size_left l.self.lines
