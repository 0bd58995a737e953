use Rattle.defect_sweep.proofs.Holding.{strips_none, strips_more, strips_all}
use Rattle.defect_sweep.proofs.bounds.around_all.Goals as goal

pub loop-strip-init : goal.loop-strip-init
loop-strip-init c = strips_none c.no_bounds-bounds.result

pub loop-strip-preserved : goal.loop-strip-preserved
loop-strip-preserved c =
    strips_more c.loop-strip.bounds c.around-bounds.result c.rect_of.result c.args.strips.now c.loop-strip.strip-index c.loop-strip-test.true
    c.around-bounds.ensures.first c.around-bounds.ensures.second c.rect_of.ensures c.loop-strip.invariant

pub returns : goal.returns
returns c = strips_all c.loop-strip.bounds c.args.strips.now c.loop-strip.strip-index c.loop-strip-test.false c.loop-strip.invariant
