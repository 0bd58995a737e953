use Rattle.std.proofs.Common.{◌≡◌, ◌+◌, ◌-◌, neg_ℤ, Some, set, sym, ap, ◌∙◌, subst, arith}
use Rattle.clause_base.specs.Literals.{lit_at}
use Rattle.refutation_check.specs.Following.{IsNumber, numbered}
use Rattle.clause_watches.specs.Listing.{pair_of, IsOther}
use Rattle.clause_watches.specs.Watching.{HasGrown}
use Rattle.clause_watches.specs.Visiting.{IsVisit, IsReplacement, IsSole}
use Rattle.clause_watches.proofs.Visits.{begins, head_here, grown_same, grown_implied, still_none, still_pair, moves, reason, implies}
use Rattle.clause_watches.proofs.visit.visit.Goals as goal

pub loop-index-init : goal.loop-index-init
loop-index-init c =
    let here : neg_ℤ c.negated-gone.result ≡ lit_at c.args.trail.now.lits c.args.head =
    head_here c.args.trail.now.lits c.lits.result.now c.args.head c.index-lits-head.result c.negated-gone.result c.lits.ensures.same c.requires.inside c.index-lits-head.is c.negated-gone.ensures in
    record {
      visit = begins c.args.trail.now c.args.lists.now c.args.head c.negated-gone.result c.count-index.result c.requires.kept c.lits.ensures.search.once c.requires.inside here c.count-index.ensures.listed c.count-index.ensures.same;
      grown = grown_same c.args.trail.now;
    }

pub loop-index-preserved-in_default : goal.loop-index-preserved-in_default
loop-index-preserved-in_default c =
    let s = c.loop-index.trail in
    let w = c.loop-index.lists in
    let v : IsVisit s w c.args.head c.negated-gone.result (c.loop-index.index - 1 + 1) = subst (λ i. IsVisit s w c.args.head c.negated-gone.result i) (omega (arith, c.loop-index-test.true)) c.loop-index.invariant.visit in
    record {
      visit = still_none s w c.args.head c.negated-gone.result (c.loop-index.index - 1) c.number-number.result v c.number-number.ensures.same (sym c.pair.ensures.same ∙ c.in_default.is);
      grown = c.loop-index.invariant.grown;
    }

pub loop-index-preserved-in-Stays : goal.loop-index-preserved-in-Stays
loop-index-preserved-in-Stays c =
    let s = c.loop-index.trail in
    let w = c.loop-index.lists in
    let v : IsVisit s w c.args.head c.negated-gone.result (c.loop-index.index - 1 + 1) = subst (λ i. IsVisit s w c.args.head c.negated-gone.result i) (omega (arith, c.loop-index-test.true)) c.loop-index.invariant.visit in
    record {
      visit = still_pair s w c.args.head c.negated-gone.result (c.loop-index.index - 1) c.number-number.result v c.number-number.ensures.same c.clause.ensures.search.once c.in-Some.pair (sym c.pair.ensures.same ∙ c.in-Some.is) c.in-Stays.ensures;
      grown = c.loop-index.invariant.grown;
    }

pub loop-index-preserved-in-Continue-1 : goal.loop-index-preserved-in-Continue-1
loop-index-preserved-in-Continue-1 c =
    let s = c.loop-index.trail in
    let w = c.loop-index.lists in
    let number = c.number-number.result in
    let v : IsVisit s w c.args.head c.negated-gone.result (c.loop-index.index - 1 + 1) = subst (λ i. IsVisit s w c.args.head c.negated-gone.result i) (omega (arith, c.loop-index-test.true)) c.loop-index.invariant.visit in
    let known : IsNumber s.clauses number = record { some = c.number-number.ensures.some; most = omega (arith, c.in-Some.ensures.known, c.number-number.ensures.some, v.paired) } in
    let watched : IsOther (pair_of w.pairs number) c.negated-gone.result c.in-Moves.other = subst (λ p. IsOther p c.negated-gone.result c.in-Moves.other) (sym (sym c.pair.ensures.same ∙ c.in-Some.is)) c.in-Moves.ensures.0 in
    let free : IsReplacement s (numbered s.clauses number) c.in-Moves.other c.in-Moves.to = subst (λ cl. IsReplacement s cl c.in-Moves.other c.in-Moves.to) c.clause.ensures.same c.in-Moves.ensures.1 in
    let after = c.in_ok-shift-in-Moves.ensures in
    record {
      visit = moves s w c.args.head c.negated-gone.result (c.loop-index.index - 1) number v c.number-number.ensures.same c.clause.ensures.search.once known c.in-Moves.other watched c.in-Moves.to c.shift.new.self free
          c.shift.ensures.vars (after.pairs ∙ ap (λ n. set w.pairs (n - 1) (Some (c.in-Moves.to, c.in-Moves.other))) (sym c.number-number.ensures.same)) after.rest after.count;
      grown = c.loop-index.invariant.grown;
    }

pub imply-requires-clause-reason : goal.imply-requires-clause-reason
imply-requires-clause-reason c =
    let s = c.loop-index.trail in
    let w = c.loop-index.lists in
    let number = c.number-number.result in
    let v : IsVisit s w c.args.head c.negated-gone.result (c.loop-index.index - 1 + 1) = subst (λ i. IsVisit s w c.args.head c.negated-gone.result i) (omega (arith, c.loop-index-test.true)) c.loop-index.invariant.visit in
    let known : IsNumber s.clauses number = record { some = c.number-number.ensures.some; most = omega (arith, c.in-Some.ensures.known, c.number-number.ensures.some, v.paired) } in
    let watched : IsOther (pair_of w.pairs number) c.negated-gone.result c.in-Implies.other = subst (λ p. IsOther p c.negated-gone.result c.in-Implies.other) (sym (sym c.pair.ensures.same ∙ c.in-Some.is)) c.in-Implies.ensures.0 in
    let sole : IsSole s (numbered s.clauses number) c.in-Implies.other = subst (λ cl. IsSole s cl c.in-Implies.other) c.clause.ensures.same c.in-Implies.ensures.1 in
    reason s w c.args.head c.negated-gone.result (c.loop-index.index - 1) number v c.number-number.ensures.same c.clause.ensures.search.once known c.in-Implies.other watched sole

pub loop-index-preserved : goal.loop-index-preserved
loop-index-preserved c =
    let s = c.loop-index.trail in
    let w = c.loop-index.lists in
    let number = c.number-number.result in
    let v : IsVisit s w c.args.head c.negated-gone.result (c.loop-index.index - 1 + 1) = subst (λ i. IsVisit s w c.args.head c.negated-gone.result i) (omega (arith, c.loop-index-test.true)) c.loop-index.invariant.visit in
    let known : IsNumber s.clauses number = record { some = c.number-number.ensures.some; most = omega (arith, c.in-Some.ensures.known, c.number-number.ensures.some, v.paired) } in
    let watched : IsOther (pair_of w.pairs number) c.negated-gone.result c.in-Implies.other = subst (λ p. IsOther p c.negated-gone.result c.in-Implies.other) (sym (sym c.pair.ensures.same ∙ c.in-Some.is)) c.in-Implies.ensures.0 in
    let sole : IsSole s (numbered s.clauses number) c.in-Implies.other = subst (λ cl. IsSole s cl c.in-Implies.other) c.clause.ensures.same c.in-Implies.ensures.1 in
    let new = c.in_ok-imply-in-Implies.ensures.implied in
    record {
      visit = subst (λ t. IsVisit t w c.args.head c.negated-gone.result (c.loop-index.index - 1)) (sym new)
          (implies s w c.args.head c.negated-gone.result (c.loop-index.index - 1) number v c.number-number.ensures.same c.clause.ensures.search.once known c.in-Implies.other watched sole);
      grown = subst (λ t. HasGrown c.args.trail.now t) (sym new) (grown_implied c.args.trail.now s c.in-Implies.other number c.loop-index.invariant.grown);
    }
