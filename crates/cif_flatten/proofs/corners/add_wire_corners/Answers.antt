use Rattle.std.proofs.Common.{arith, sym, ◌∙◌, ◌^◌}
use Rattle.std.proofs.lemmas.Int.{ints}
use Rattle.plane_geom.specs.Bounds.{IsPointWithin}
use Rattle.cif_flatten.proofs.Wires.{rest_near, wire_step, wire_end}
use Rattle.cif_flatten.proofs.corners.add_wire_corners.Goals as goal

pub widened-requires-in-loop-to-clause-to : goal.widened-requires-in-loop-to-clause-to
widened-requires-in-loop-to-clause-to c = rest_near (IsPointWithin (2 ^ 60)) c.args.path.now c.in-Some.first.now c.in-Some.rest.now c.loop-to.to-index _ c.in-Some.ensures.cases.0 c.requires.near c.loop-to-test.true

pub loop-to-preserved : goal.loop-to-preserved
loop-to-preserved c = record {
  near = rest_near (IsPointWithin (2 ^ 60)) c.args.path.now c.in-Some.first.now c.in-Some.rest.now c.loop-to.to-index _ c.in-Some.ensures.cases.0 c.requires.near c.loop-to-test.true;
  whole = wire_step _ _ _ _ _ c.in-Some.rest.now c.loop-to.to-index _ _ c.loop-to-test.true c.widened-in-loop-to.ensures c.in_ok-add_ends.ensures c.loop-to.invariant.whole;
}

pub returns : goal.returns
returns c = wire_end c.args.half _ _ _ c.args.path.now c.in-Some.first.now _ c.in-Some.rest.now c.loop-to.to-index (omega (arith, ints)) c.in-Some.ensures.cases.0 (sym c.is_empty.ensures ∙ c.if-is_empty.false) c.loop-to-test.false c.loop-to.invariant.whole
