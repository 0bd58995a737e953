use Rattle.std.proofs.Common.{take}
use Rattle.conflict_solver.specs.Joining.{ListsOnly}
use Rattle.conflict_solver.proofs.joining.other_than.Given as goal

abbrev pub invariant-loop-lit : goal.invariant-loop-lit
invariant-loop-lit l = ListsOnly (take l.lit-index l.clause) l.first
