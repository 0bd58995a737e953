use Rattle.std.proofs.Common.{[], ◌^◌, sym, subst}
use Rattle.std.proofs.lemmas.List.{get_or_read}
use Rattle.mask_region.specs.Strips.{AreStripsWithin}
use Rattle.defect_sweep.specs.Reaching.{ArePlacements}
use Rattle.defect_sweep.proofs.Reached.{reached_none, reached_more, reached_held}
use Rattle.defect_sweep.proofs.net_reach.NetReach.new.Goals as goal

pub loop-region-init : goal.loop-region-init
loop-region-init c = reached_none c.args.sides.now c.args.regions.now c.new-on.result.items c.no_bounds-bounds.result c.new-on.ensures.items

pub new-requires-clause-near : goal.new-requires-clause-near
new-requires-clause-near c =
    let item = get_or_read c.args.regions.now c.loop-region.region-index c.region-item.result c.loop-region-test.true c.region-item.is [] in
    subst (λ r. AreStripsWithin (2 ^ 24) r) (sym item) (c.requires.near.each c.loop-region.region-index [] c.loop-region-test.true)

pub loop-region-preserved : goal.loop-region-preserved
loop-region-preserved c =
    let item = get_or_read c.args.regions.now c.loop-region.region-index c.region-item.result c.loop-region-test.true c.region-item.is [] in
    reached_more c.args.sides.now c.args.regions.now c.loop-region.region-index c.loop-region.on.items c.push.new.self.items c.loop-region.bounds c.around-bounds.result c.bounds.result
    c.in_ok-reach.reach c.loop-region.invariant c.around-bounds.ensures.first c.around-bounds.ensures.second c.bounds.ensures
    (subst (λ r. ArePlacements c.args.sides.now r c.in_ok-reach.reach.placements) item c.in_ok-reach.ensures) c.in_ok-push.ensures.items

pub invariant_of-result : goal.invariant_of-result
invariant_of-result c =
    record { held = reached_held c.args.sides.now c.args.regions.now c.loop-region.region-index c.loop-region.on.items c.loop-region.bounds c.loop-region.invariant }
