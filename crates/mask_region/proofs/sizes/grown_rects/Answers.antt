use Rattle.mask_region.proofs.Areas.{strip_of_all}
use Rattle.mask_region.proofs.Growing.{grown_start, grown_more, grown_all}
use Rattle.mask_region.proofs.sizes.grown_rects.Goals as goal

pub loop-strip-init : goal.loop-strip-init
loop-strip-init c = grown_start c.args.side c.args.strips.now c.new-rects.result.items c.new-rects.ensures.items

pub grown-requires-clause-strip : goal.grown-requires-clause-strip
grown-requires-clause-strip c = strip_of_all c.args.strips.now c.loop-strip.strip-index c.loop-strip-test.true c.requires.banded

pub loop-strip-preserved : goal.loop-strip-preserved
loop-strip-preserved c =
    grown_more c.args.side c.args.strips.now c.loop-strip.strip-index c.loop-strip.rects.items _ c.grown.result c.loop-strip-test.true c.loop-strip.invariant
    c.grown.ensures.within c.grown.ensures.cells c.in_ok-push.ensures.items

pub returns-clause-cells : goal.returns-clause-cells
returns-clause-cells c = grown_all c.args.side c.args.strips.now c.loop-strip.strip-index c.loop-strip.rects.items c.loop-strip-test.false c.loop-strip.invariant
