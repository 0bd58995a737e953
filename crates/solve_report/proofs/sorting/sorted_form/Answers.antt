use Rattle.std.proofs.Common.{sym, subst}
use Rattle.clause_base.specs.Formulas.{IsFormula}
use Rattle.solve_report.proofs.Sorted.{sorted_is_formula, sorted_all, sorted_more}
use Rattle.solve_report.proofs.sorting.sorted_form.Goals as goal

pub new-requires : goal.new-requires
new-requires c =
    let all = sorted_all c.clauses-clause-items.result.now c.args.formula.now.clauses c.loop-clause.clauses.items c.loop-clause.clause-index c.clauses-clause-items.ensures.same c.loop-clause-test.false c.loop-clause.invariant in
    subst (λ n. IsFormula n c.loop-clause.clauses.items) (sym c.vars.ensures) (sorted_is_formula c.args.formula.now.vars c.args.formula.now.clauses c.loop-clause.clauses.items c.clauses-clause-items.ensures.kept all)

pub loop-clause-preserved : goal.loop-clause-preserved
loop-clause-preserved c =
    sorted_more c.clauses-clause-items.result.now c.loop-clause.clauses.items c.push.new.self.items c.loop-clause.clause-index c.clause-item.result c.as_slice.result.now _ c.loop-clause-test.true c.clause-item.is c.as_slice.ensures c.loop-clause.invariant
    c.in_ok-distinct.ensures.same c.in_ok-distinct.ensures.rising c.in_ok-push.ensures.items
