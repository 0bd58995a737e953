use Rattle.std.proofs.Common.{◌≡◌, sym, ◌∙◌, subst}
use Rattle.std.proofs.lemmas.List.{take_all}
use Rattle.std.proofs.lemmas.List.Elements.{All-more}
use Rattle.conflict_solver.specs.Joining.{ListsOnly}
use Rattle.conflict_solver.proofs.joining.other_than.Goals as goal

pub loop-lit-preserved : goal.loop-lit-preserved
loop-lit-preserved c = All-more (λ l. l ≡ c.args.first) c.args.clause.now c.loop-lit.lit-index c.lit-item.result c.loop-lit-test.true c.loop-lit.invariant
    (sym c.lit-item.is ∙ c.is_other.ensures.no c.if-is_other.false)

pub returns-clause-none : goal.returns-clause-none
returns-clause-none c = subst (λ xs. ListsOnly xs c.args.first) (take_all c.loop-lit.lit-index c.args.clause.now c.loop-lit-test.false) c.loop-lit.invariant
