use Rattle.std.proofs.Common.{take}
use Rattle.std.specs.List.{All}
use Rattle.clause_base.specs.Solving.{is_true_under, IsTrueUnder}
use Rattle.clause_base.proofs.formulas.solves.Given as goal

abbrev pub invariant-loop-clause : goal.invariant-loop-clause
invariant-loop-clause l = All (IsTrueUnder (is_true_under l.values)) (take l.clause-index l.clause-items)
