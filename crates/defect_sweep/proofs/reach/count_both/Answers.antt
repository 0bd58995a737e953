use Rattle.std.proofs.Common.{arith}
use Rattle.defect_sweep.proofs.Meeting.{step_at}
use Rattle.defect_sweep.proofs.reach.count_both.Goals as goal

pub overflow_mul-total : goal.overflow_mul-total
overflow_mul-total c =
    let step =
    step_at c.args.sides.now c.args.first.now c.args.second.now c.loop-k.k c.loop-k.total c.area.result _ _ _ c.loop-k-test.true c.requires.sides c.requires.first_each c.requires.second_each
    c.requires.near c.loop-k.invariant.so_far c.index-first-k.is c.index-second-k.is c.in_ok-both.ensures c.area.ensures
    in
    omega (arith, step.small)

pub overflow_add-total : goal.overflow_add-total
overflow_add-total c =
    let step =
    step_at c.args.sides.now c.args.first.now c.args.second.now c.loop-k.k c.loop-k.total c.area.result _ _ _ c.loop-k-test.true c.requires.sides c.requires.first_each c.requires.second_each
    c.requires.near c.loop-k.invariant.so_far c.index-first-k.is c.index-second-k.is c.in_ok-both.ensures c.area.ensures
    in
    omega (arith, step.small, c.loop-k.invariant.small, c.loop-k-test.true, c.requires.sides.few)

pub loop-k-preserved : goal.loop-k-preserved
loop-k-preserved c =
    let step =
    step_at c.args.sides.now c.args.first.now c.args.second.now c.loop-k.k c.loop-k.total c.area.result _ _ _ c.loop-k-test.true c.requires.sides c.requires.first_each c.requires.second_each
    c.requires.near c.loop-k.invariant.so_far c.index-first-k.is c.index-second-k.is c.in_ok-both.ensures c.area.ensures
    in
    record { so_far = step.sum; small = omega (arith, step.small, c.loop-k.invariant.small) }
