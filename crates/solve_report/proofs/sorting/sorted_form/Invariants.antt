use Rattle.std.proofs.Common.{take}
use Rattle.std.specs.List.{AllZip}
use Rattle.solve_report.specs.Report.{IsSortedClause}
use Rattle.solve_report.proofs.sorting.sorted_form.Given as goal

-- the clauses so far are sorted
abbrev pub invariant-loop-clause : goal.invariant-loop-clause
invariant-loop-clause l = AllZip IsSortedClause (take l.clause-index l.clause-items) l.clauses.items
