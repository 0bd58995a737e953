use Rattle.std.proofs.Common.{arith}
use Rattle.std.proofs.lemmas.Int.{ints, clamps}
use Rattle.plane_geom.proofs.Reaching.{rect_is}
use Rattle.cif_flatten.proofs.corners.widened.Goals as goal

pub returns : goal.returns
returns c =
    rect_is _ _ (omega (arith, ints, clamps, c.below.ensures)) (omega (arith, ints, clamps, c.below-2.ensures))
    (omega (arith, ints, clamps, c.above.ensures)) (omega (arith, ints, clamps, c.above-2.ensures))
