use Rattle.std.proofs.Common.{sym, ◌∙◌}
use Rattle.clause_base.proofs.Rising.{a_place, no_place, beside, apart_more, apart_at, is_false, is_true}
use Rattle.clause_base.proofs.clauses.is_apart.Goals as goal

pub returns-then-is_ok : goal.returns-then-is_ok
returns-then-is_ok c =
    let has = a_place c.args.lits.now c.negated.result c.binary_search.result c.binary_search.ensures.bound c.binary_search.ensures.position (sym c.is_ok.ensures.value ∙ c.if-is_ok.true) in
    is_false (beside c.args.lits.now c.loop-lit.lit-index c.lit-item.result c.negated.result c.loop-lit-test.true c.lit-item.is c.negated.ensures has)

pub loop-lit-preserved : goal.loop-lit-preserved
loop-lit-preserved c =
    let none = no_place c.args.lits.now c.negated.result c.binary_search.result c.requires c.binary_search.ensures.position (sym c.is_ok.ensures.value ∙ c.if-is_ok.false) in
    apart_more c.args.lits.now c.loop-lit.lit-index c.lit-item.result c.negated.result c.loop-lit-test.true c.lit-item.is c.negated.ensures none c.loop-lit.invariant

pub returns : goal.returns
returns c = is_true (apart_at c.args.lits.now c.loop-lit.lit-index c.loop-lit-test.false c.loop-lit.invariant)
