use Rattle.std.proofs.Common.{◌≡◌, take}
use Rattle.refutation_check.specs.Marking.{is_marked}
use Rattle.refutation_check.specs.Refusing.{Leads}
use Rattle.refutation_check.proofs.hints.follow.Given as goal

abbrev pub invariant-loop-index : goal.invariant-loop-index
invariant-loop-index l = record {
  vars : l.marks.vars ≡ l.fn.marks.vars;
  leads : Leads l.store (is_marked l.fn.marks) (take l.index l.hints) (is_marked l.marks);
}
