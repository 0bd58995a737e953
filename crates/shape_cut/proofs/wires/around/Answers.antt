use Rattle.std.proofs.Common.{arith}
use Rattle.std.proofs.lemmas.Int.{ints, clamps}
use Rattle.plane_geom.proofs.Ranges.{fits_far}
use Rattle.plane_geom.proofs.Reaching.{rect_is}
use Rattle.shape_cut.proofs.wires.around.Goals as goal

pub overflow_sub-result : goal.overflow_sub-result
overflow_sub-result c = fits_far _ (omega (arith, ints, clamps, c.min.ensures.value)) (omega (arith, ints, clamps, c.min.ensures.value))

pub overflow_sub-result-2 : goal.overflow_sub-result-2
overflow_sub-result-2 c = fits_far _ (omega (arith, ints, clamps, c.min-2.ensures.value)) (omega (arith, ints, clamps, c.min-2.ensures.value))

pub returns : goal.returns
returns c =
    rect_is _ _ (omega (arith, ints, clamps, c.min.ensures.value)) (omega (arith, ints, clamps, c.min-2.ensures.value))
    (omega (arith, ints, clamps, c.max.ensures.value)) (omega (arith, ints, clamps, c.max-2.ensures.value))
