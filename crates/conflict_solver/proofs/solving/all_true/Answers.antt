use Rattle.std.proofs.Common.{◌≡◌, ◌+◌, neg_ℤ, true, subst, arith}
use Rattle.std.specs.List.{All}
use Rattle.clause_base.specs.Literals.{is_in}
use Rattle.refutation_check.specs.Following.{IsNumber}
use Rattle.conflict_solver.proofs.Verdicts.{not_false}
use Rattle.conflict_solver.proofs.Steps.{true_more}
use Rattle.conflict_solver.specs.Setting.{AreTrue}
use Rattle.conflict_solver.proofs.solving.all_true.Goals as goal

pub loop-place-init : goal.loop-place-init
loop-place-init c = λ k d klt. let no' : ⊥ = omega (arith, klt) in absurd no'

pub unreachable-requires : goal.unreachable-requires
unreachable-requires c =
    let number : IsNumber c.args.trail.now.clauses (c.loop-place.place + 1) = record { some = omega arith; most = omega (arith, c.loop-place-test.true, c.clauses-place-end.ensures) } in
    not_false c.args.trail.now c.args.watches.now c.clause.ensures.search c.requires.kept c.requires.done (c.loop-place.place + 1) number
    (subst (All (λ l. is_in c.args.trail.now.lits (neg_ℤ l) ≡ true)) c.clause.ensures.same (c.is_true_in.ensures.no c.if-not-is_true_in.true))

pub loop-place-preserved : goal.loop-place-preserved
loop-place-preserved c = true_more c.args.trail.now c.loop-place.place c.clause.result.now (omega (arith, c.loop-place-test.true, c.clauses-place-end.ensures)) c.clause.ensures.same
    (c.is_true_in.ensures.yes c.if-not-is_true_in.false) c.loop-place.invariant

pub returns : goal.returns
returns c = subst (AreTrue c.args.trail.now) (omega (arith, c.loop-place-test.false, c.clauses-place-end.ensures, c.loop-place.auto.place-end)) c.loop-place.invariant
