use Rattle.std.proofs.Common.{rules, arith, FitsSigned, ◌*◌, ◌^◌, ◌∙◌}
use Rattle.std.specs.Int.{w128}
use Rattle.std.proofs.lemmas.Int.{ints, to_z-of_z}
use Rattle.cif_reader.proofs.Transforming.{one_small, shift_step}
use Rattle.cif_reader.proofs.calls.shift_of.Goals as goal

pub moved_once-requires-clause-small : goal.moved_once-requires-clause-small
moved_once-requires-clause-small c = one_small c.args.transformations.now c.loop-transformation.transformation-index _ c.requires c.loop-transformation-test.true

pub loop-transformation-preserved : goal.loop-transformation-preserved
loop-transformation-preserved c =
    let fx : FitsSigned w128 c.moved_once.result.0 = search rules in
    let fy : FitsSigned w128 c.moved_once.result.1 = search rules in
    let x_within = c.moved_once.ensures.x_within (c.loop-transformation.transformation-index * 2 ^ 33) c.loop-transformation.invariant.x_near c.loop-transformation.invariant.y_near in
    let y_within = c.moved_once.ensures.y_within (c.loop-transformation.transformation-index * 2 ^ 33) c.loop-transformation.invariant.x_near c.loop-transformation.invariant.y_near in
    record {
      left = shift_step c.args.transformations.now c.loop-transformation.transformation-index _ _ _ _ _ _ c.loop-transformation-test.true c.loop-transformation.invariant.left
          (to_z-of_z w128 c.moved_once.result.0 fx ∙ c.moved_once.ensures.x) (to_z-of_z w128 c.moved_once.result.1 fy ∙ c.moved_once.ensures.y);
      x_near = record { low = omega (arith, ints, x_within.low); high = omega (arith, ints, x_within.high) };
      y_near = record { low = omega (arith, ints, y_within.low); high = omega (arith, ints, y_within.high) };
    }
