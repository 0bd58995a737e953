use Rattle.std.proofs.Common.{arith}
use Rattle.defect_sweep.proofs.Reached.{counted_more, wire_counted}
use Rattle.defect_sweep.proofs.net_reach.count_pair.Goals as goal

pub overflow_add-total : goal.overflow_add-total
overflow_add-total c = omega (arith, c.loop-wire.invariant.small, c.in_ok-count.ensures.small, c.loop-wire-test.true, c.requires.few)

pub loop-wire-preserved : goal.loop-wire-preserved
loop-wire-preserved c =
    counted_more c.args.sides.now c.args.first.now c.args.second.now c.loop-wire.wire c.loop-wire.total c.in_ok-count.count c.loop-wire.on.items c.push_wire.new.on.items c.loop-wire.invariant
    (wire_counted c.args.sides.now c.args.first.now c.args.second.now c.loop-wire.wire c.in_ok-count.count c.index-first-wire.result c.index-second-wire.result c.loop-wire-test.true
    (omega (arith, c.loop-wire-test.true, c.requires.same)) c.index-first-wire.is c.index-second-wire.is c.in_ok-count.ensures.counts)
    c.in_ok-count.ensures.small c.in_ok-push_wire.ensures
