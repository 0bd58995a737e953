use Rattle.clause_base.specs.Solving.{is_true_under}
use Rattle.clause_base.proofs.Rising.{is_false, is_true, told, not_told}
use Rattle.clause_base.proofs.Solved.{clause_true, solved_more, solved_all}
use Rattle.clause_base.proofs.formulas.solves.Goals as goal

pub returns-then-not-is_true : goal.returns-then-not-is_true
returns-then-not-is_true c = is_false (λ all. not_told c.is_true.ensures c.if-not-is_true.true
    (clause_true (is_true_under c.args.values.now) c.clauses-clause-items.result.now c.loop-clause.clause-index _ _ _ c.clauses-clause-items.ensures.same c.loop-clause-test.true c.clause-item.is c.as_slice.ensures all))

pub loop-clause-preserved : goal.loop-clause-preserved
loop-clause-preserved c = solved_more (is_true_under c.args.values.now) c.clauses-clause-items.result.now c.loop-clause.clause-index _ _ c.loop-clause-test.true c.clause-item.is c.as_slice.ensures
    (told c.is_true.ensures c.if-not-is_true.false) c.loop-clause.invariant

pub returns : goal.returns
returns c = is_true (solved_all (is_true_under c.args.values.now) c.clauses-clause-items.result.now c.loop-clause.clause-index _ c.clauses-clause-items.ensures.same c.loop-clause-test.false c.loop-clause.invariant)
