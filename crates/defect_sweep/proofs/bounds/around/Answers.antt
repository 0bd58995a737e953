use Rattle.std.proofs.Common.{arith}
use Rattle.std.proofs.lemmas.Int.{ints}
use Rattle.defect_sweep.proofs.Holding.{rect_held}
use Rattle.defect_sweep.proofs.bounds.around.Goals as goal

pub returns-clause-first : goal.returns-clause-first
returns-clause-first c =
    rect_held _ c.args.a.now (omega (arith, ints, c.lesser.ensures.first)) (omega (arith, ints, c.lesser-2.ensures.first)) (omega (arith, ints, c.greater.ensures.first))
    (omega (arith, ints, c.greater-2.ensures.first))

pub returns-clause-second : goal.returns-clause-second
returns-clause-second c =
    rect_held _ c.args.b.now (omega (arith, ints, c.lesser.ensures.second)) (omega (arith, ints, c.lesser-2.ensures.second)) (omega (arith, ints, c.greater.ensures.second))
    (omega (arith, ints, c.greater-2.ensures.second))
