use Rattle.std.proofs.Common.{◌≡◌, length}
use Rattle.clause_base.specs.Readers.{left}
use Rattle.clause_base.proofs.ReadingLemmas.{HasRead}
use Rattle.clause_base.proofs.reading.read_clauses.Given as goal

abbrev pub invariant-loop-alloc : goal.invariant-loop-alloc
invariant-loop-alloc l = HasRead l.vars l.count (left l.fn.words) (left l.words) l.clauses.items l.lits.items × (l.words.end ≡ l.fn.words.end)

abbrev pub decreases-loop-alloc : goal.decreases-loop-alloc
decreases-loop-alloc l = length (left l.words)
