use Rattle.std.proofs.Common.{rules, ◌≡◌, ◌-◌, ◌<◌, inr, length, take, slice_index, refl, sym, ◌∙◌, subst, arith}
use Rattle.refutation_check.specs.Marking.{is_marked}
use Rattle.refutation_check.specs.Following.{IsUnit, HasFailed}
use Rattle.refutation_check.specs.Refusing.{Leads, IsStuck, IsClashless}
use Rattle.refutation_check.proofs.Leading.{not_lost, not_stuck, not_clashless, leads_more, all_run}
use Rattle.refutation_check.proofs.Scanning.{not_sole, not_nothing}
use Rattle.refutation_check.proofs.hints.follow.Goals as goal

pub returns-in_default-clause-only : goal.returns-in_default-clause-only
returns-in_default-clause-only c = λ runs. not_lost c.args.store.now (is_marked c.args.marks.now) c.args.hints.now c.loop-index.index
    (record { inside = omega (arith, c.loop-index-test.true); set = is_marked c.loop-index.marks; leads = c.loop-index.invariant.leads; none = c.in_default.ensures.none }) runs

pub returns-in_default-left_of : goal.returns-in_default-left_of
returns-in_default-left_of c =
    let clause = c.in-Some.clause.now in
    let stuck : IsStuck c.args.store.now (is_marked c.args.marks.now) c.args.hints.now c.loop-index.index = record {
      inside = omega (arith, c.loop-index-test.true);
      set = is_marked c.loop-index.marks;
      leads = c.loop-index.invariant.leads;
      number = c.in-Some.ensures.some.0;
      none = λ lit unit. not_sole (is_marked c.loop-index.marks) clause c.left_of.result c.left_of.ensures c.in_default-left_of.not-Sole lit
          (subst (λ ls. IsUnit (is_marked c.loop-index.marks) ls lit) (sym c.in-Some.ensures.some.1) unit);
    } in
    record { vars = c.loop-index.invariant.vars; runs = tt; refused = stuck; only = λ runs. not_stuck c.args.store.now (is_marked c.args.marks.now) c.args.hints.now c.loop-index.index stuck runs }

pub loop-index-preserved : goal.loop-index-preserved
loop-index-preserved c = record {
  vars = c.insert.ensures.vars ∙ c.loop-index.invariant.vars;
  leads = leads_more c.args.store.now (is_marked c.args.marks.now) c.args.hints.now c.loop-index.index (is_marked c.loop-index.marks) (is_marked c.insert.new.self)
      (slice_index c.args.hints.now c.loop-index.index) c.in-Some.clause.now c.in-Sole.lit c.negated.result
      (omega (arith, c.loop-index-test.true)) refl c.loop-index.invariant.leads c.in-Some.ensures.some.0 c.in-Some.ensures.some.1 c.in-Sole.ensures c.negated.ensures c.insert.ensures.joined;
}

pub returns-in_default-clause_of-clause-only : goal.returns-in_default-clause_of-clause-only
returns-in_default-clause_of-clause-only c =
    let some : 0 < length c.args.hints.now = search (rules, c.if-is_empty.false, c.is_empty.ensures) in
    let at : c.loop-index.index ≡ length c.args.hints.now - 1 = omega (arith, c.loop-index.auto.index-end, c.loop-index-test.false) in
    λ runs. not_lost c.args.store.now (is_marked c.args.marks.now) c.args.hints.now (length c.args.hints.now - 1) (record {
      inside = omega (arith, some);
      set = is_marked c.loop-index.marks;
      leads = subst (λ i. Leads c.args.store.now (is_marked c.args.marks.now) (take i c.args.hints.now) (is_marked c.loop-index.marks)) at c.loop-index.invariant.leads;
      none = c.in_default-clause_of.ensures.none;
    }) runs

pub returns-in-Nothing-clause-runs : goal.returns-in-Nothing-clause-runs
returns-in-Nothing-clause-runs c =
    let some : 0 < length c.args.hints.now = search (rules, c.if-is_empty.false, c.is_empty.ensures) in
    let at : c.loop-index.index ≡ length c.args.hints.now - 1 = omega (arith, c.loop-index.auto.index-end, c.loop-index-test.false) in
    all_run c.args.store.now (is_marked c.args.marks.now) c.args.hints.now (length c.args.hints.now - 1) (is_marked c.loop-index.marks) (slice_index c.args.hints.now (length c.args.hints.now - 1)) c.in-Some-clause_of.clause.now
    refl some refl (subst (λ i. Leads c.args.store.now (is_marked c.args.marks.now) (take i c.args.hints.now) (is_marked c.loop-index.marks)) at c.loop-index.invariant.leads)
    c.in-Some-clause_of.ensures.some.0 c.in-Some-clause_of.ensures.some.1 c.in-Nothing.ensures

pub returns-in_default-left_of-2 : goal.returns-in_default-left_of-2
returns-in_default-left_of-2 c =
    let some : 0 < length c.args.hints.now = search (rules, c.if-is_empty.false, c.is_empty.ensures) in
    let at : c.loop-index.index ≡ length c.args.hints.now - 1 = omega (arith, c.loop-index.auto.index-end, c.loop-index-test.false) in
    let off : IsClashless c.args.store.now (is_marked c.args.marks.now) c.args.hints.now = record {
      some = some;
      set = is_marked c.loop-index.marks;
      leads = subst (λ i. Leads c.args.store.now (is_marked c.args.marks.now) (take i c.args.hints.now) (is_marked c.loop-index.marks)) at c.loop-index.invariant.leads;
      number = c.in-Some-clause_of.ensures.some.0;
      none = λ failed. not_nothing (is_marked c.loop-index.marks) c.in-Some-clause_of.clause.now c.left_of-2.result c.left_of-2.ensures c.in_default-left_of-2.not-Nothing
          (subst (λ ls. HasFailed (is_marked c.loop-index.marks) ls) (sym c.in-Some-clause_of.ensures.some.1) failed);
    } in
    record { vars = c.loop-index.invariant.vars; runs = tt; refused = inr off; only = λ runs. not_clashless c.args.store.now (is_marked c.args.marks.now) c.args.hints.now off runs }
