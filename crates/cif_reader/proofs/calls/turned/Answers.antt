use Rattle.std.proofs.Common.{arith}
use Rattle.std.proofs.lemmas.Int.{ints}
use Rattle.cif_reader.proofs.Transforming.{turn_step}
use Rattle.cif_reader.proofs.calls.turned.Goals as goal

pub loop-transformation-preserved : goal.loop-transformation-preserved
loop-transformation-preserved c = record {
  place = turn_step c.args.transformations.now c.loop-transformation.transformation-index _ c.loop-transformation.place _ c.then-place.result c.loop-transformation-test.true c.loop-transformation.invariant.place c.turn_once-turn.ensures c.then-place.ensures.moves;
  still = c.then-place.ensures.near 0 0 c.loop-transformation.invariant.still (record { dx = record { low = omega (arith, ints); high = omega (arith, ints) }; dy = record { low = omega (arith, ints); high = omega (arith, ints) } });
}
