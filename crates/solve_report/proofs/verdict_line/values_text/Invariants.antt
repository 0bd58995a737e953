use Rattle.std.proofs.Common.{◌≡◌}
use Rattle.solve_report.proofs.Literals.{line_so_far}
use Rattle.solve_report.proofs.verdict_line.values_text.Given as goal

-- the line so far
abbrev pub invariant-loop-i : goal.invariant-loop-i
invariant-loop-i l = l.line.bytes.items ≡ line_so_far l.values l.i
