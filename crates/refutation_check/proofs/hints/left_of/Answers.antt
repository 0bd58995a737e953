use Rattle.std.proofs.Common.{sym, ◌∙◌, ◌+◌, take, subst}
use Rattle.refutation_check.specs.Marking.{is_marked}
use Rattle.refutation_check.proofs.Scanning.{IsSoFar, passes, takes, ends}
use Rattle.refutation_check.proofs.hints.left_of.Goals as goal
use Rattle.refutation_check.proofs.hints.left_of.Goals.{then-not-contains+else-not-is_first, else-not-contains}

pub loop-lit-preserved : goal.loop-lit-preserved
loop-lit-preserved c = elim c.if-not-contains.branch [
  | then-not-contains+else-not-is_first w ↦ subst (λ left. IsSoFar (is_marked c.args.marks.now) (take (c.loop-lit.lit-index + 1) c.args.clause.now) left) (sym w.left-is)
      (takes (is_marked c.args.marks.now) c.args.clause.now c.loop-lit.lit-index c.lit-item.result c.loop-lit.left c.loop-lit-test.true c.lit-item.is (sym c.contains.ensures ∙ w.if-not-contains.true)
      (w.is_first.ensures.yes w.if-not-is_first.false) c.loop-lit.invariant)
  | else-not-contains w ↦ subst (λ left. IsSoFar (is_marked c.args.marks.now) (take (c.loop-lit.lit-index + 1) c.args.clause.now) left) (sym w.left-is)
      (passes (is_marked c.args.marks.now) c.args.clause.now c.loop-lit.lit-index c.lit-item.result c.loop-lit.left c.loop-lit-test.true c.lit-item.is (sym c.contains.ensures ∙ w.if-not-contains.false) c.loop-lit.invariant)
]

pub returns : goal.returns
returns c = ends (is_marked c.args.marks.now) c.args.clause.now c.loop-lit.lit-index c.loop-lit.left c.loop-lit-test.false c.loop-lit.invariant
