use Rattle.std.proofs.Common.{arith, ◌*◌, ◌+◌, ◌-◌, ap, take, drop, ◌∙◌, length, ◌≡◌}
use Rattle.defect_sweep.proofs.Spreading.{spread_none, spread_more, own_regions, own_length}
use Rattle.defect_sweep.proofs.sweep.reaches_of.Goals as goal

pub loop-net-init : goal.loop-net-init
loop-net-init c = spread_none c.args.sides.now c.args.wires c.args.regions.now c.new-reaches.result.items c.new-reaches.ensures.items

pub loop-net-preserved : goal.loop-net-preserved
loop-net-preserved c =
    let first = c.loop-net.net * c.args.wires in
    let size : (first + c.args.wires) - first ≡ c.args.wires = omega arith in
    let own = ap (λ n. take n (drop first c.args.regions.now)) size in
    spread_more c.args.sides.now c.args.wires c.args.regions.now c.loop-net.net c.loop-net.reaches.items c.push.new.self.items c.in_ok-new.field-0 c.loop-net.invariant
    (own_regions c.args.sides.now c.args.wires c.args.regions.now (take ((first + c.args.wires) - first) (drop first c.args.regions.now)) c.loop-net.net c.in_ok-new.field-0 own
    (ap (λ xs. length xs) own ∙ own_length c.args.regions.now c.args.nets c.args.wires c.loop-net.net c.requires.whole c.loop-net-test.true) c.in_ok-new.ensures)
    c.in_ok-push.ensures.items
