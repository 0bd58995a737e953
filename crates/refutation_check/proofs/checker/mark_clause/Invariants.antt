use Rattle.std.proofs.Common.{◌≡◌, ℤ, take}
use Rattle.clause_base.specs.Literals.{is_in}
use Rattle.refutation_check.specs.Marking.{is_marked}
use Rattle.refutation_check.proofs.checker.mark_clause.Given as goal

abbrev pub invariant-loop-lit : goal.invariant-loop-lit
invariant-loop-lit l = record {
  vars : l.marks.vars ≡ l.fn.marks.vars;
  each : (m : ℤ) → is_marked l.marks m ≡ is_in (take l.lit-index l.clause) m;
}
