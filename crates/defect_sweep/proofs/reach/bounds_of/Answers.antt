use Rattle.std.proofs.Common.{[], ◌∙◌, subst}
use Rattle.std.proofs.lemmas.List.{get_or_read}
use Rattle.defect_sweep.specs.Reaching.{HoldsStrips}
use Rattle.defect_sweep.proofs.Holding.{first_none, first_more, first_all}
use Rattle.defect_sweep.proofs.reach.bounds_of.Goals as goal

pub loop-region-init : goal.loop-region-init
loop-region-init c = first_none c.no_bounds-bounds.result c.args.regions.now

pub loop-region-preserved : goal.loop-region-preserved
loop-region-preserved c =
    let item = get_or_read c.args.regions.now c.loop-region.region-index c.region-item.result c.loop-region-test.true c.region-item.is [] in
    first_more c.loop-region.bounds c.around-bounds.result c.around_all.result c.args.regions.now c.loop-region.region-index
    c.around-bounds.ensures.first c.around-bounds.ensures.second
    (subst (λ strips. HoldsStrips c.around_all.result strips) (c.strips.ensures.same ∙ item) c.around_all.ensures) c.loop-region.invariant

pub returns : goal.returns
returns c = first_all c.loop-region.bounds c.args.regions.now c.loop-region.region-index c.loop-region-test.false c.loop-region.invariant
