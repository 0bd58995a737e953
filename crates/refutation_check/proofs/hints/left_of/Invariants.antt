use Rattle.std.proofs.Common.{take}
use Rattle.refutation_check.specs.Marking.{is_marked}
use Rattle.refutation_check.proofs.Scanning.{IsSoFar}
use Rattle.refutation_check.proofs.hints.left_of.Given as goal

abbrev pub invariant-loop-lit : goal.invariant-loop-lit
invariant-loop-lit l = IsSoFar (is_marked l.marks) (take l.lit-index l.clause) l.left
