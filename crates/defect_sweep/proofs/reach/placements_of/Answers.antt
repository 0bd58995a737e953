use Rattle.defect_sweep.proofs.Placing.{placed_all, placements_near}
use Rattle.defect_sweep.proofs.reach.placements_of.Goals as goal

pub returns-clause-near : goal.returns-clause-near
returns-clause-near c =
    placements_near c.args.sides.now c.args.region.now c.loop-side.placements.items c.requires.sides c.requires.near
    (placed_all c.args.sides.now c.args.region.now c.loop-side.side-index c.loop-side.placements.items c.loop-side-test.false c.loop-side.auto.side-index-end c.loop-side.invariant)
