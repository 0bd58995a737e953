use Rattle.std.proofs.Common.{◌+◌, take, arith}
use Rattle.mask_region.specs.Strips.{is_in}
use Rattle.mask_region.proofs.Areas.{area_none, area_more, count_cells_most, strip_of_all}
use Rattle.mask_region.proofs.sizes.area_of.Goals as goal

pub loop-strip-init : goal.loop-strip-init
loop-strip-init c = area_none

pub area-total-requires : goal.area-total-requires
area-total-requires c = strip_of_all c.args.strips.now c.loop-strip.strip-index c.loop-strip-test.true c.requires

pub overflow_add-total : goal.overflow_add-total
overflow_add-total c =
    let more = area_more c.args.strips.now c.loop-strip.strip-index c.loop-strip.total c.area-total.result c.loop-strip-test.true c.requires c.loop-strip.invariant c.area-total.ensures in
    record { fits = omega (arith, more, count_cells_most (is_in (take (c.loop-strip.strip-index + 1) c.args.strips.now))) }

pub loop-strip-preserved : goal.loop-strip-preserved
loop-strip-preserved c =
    area_more c.args.strips.now c.loop-strip.strip-index c.loop-strip.total c.area-total.result c.loop-strip-test.true c.requires c.loop-strip.invariant c.area-total.ensures
