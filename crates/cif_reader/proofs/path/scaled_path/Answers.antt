use Rattle.cif_reader.proofs.Paths.{lent_near, path_more, path_end}
use Rattle.cif_reader.proofs.path.scaled_path.Goals as goal

pub scaled_point-requires-in-loop-spot-clause-not_far : goal.scaled_point-requires-in-loop-spot-clause-not_far
scaled_point-requires-in-loop-spot-clause-not_far c =
    lent_near c.args.scale c.args.path.now.first c.args.path.now.others.items c.deref-spot-items.result.now c.loop-spot.spot-index _ c.deref-spot-items.ensures.value c.requires.not_far c.loop-spot-test.true

pub loop-spot-preserved : goal.loop-spot-preserved
loop-spot-preserved c =
    path_more c.args.scale c.args.path.now.first c.args.path.now.others.items c.deref-spot-items.result.now c.loop-spot.spot-index _ c.loop-spot.points.items _ c.scaled_point-in-loop-spot.result c.deref-spot-items.ensures.value c.loop-spot-test.true c.loop-spot.invariant c.scaled_point-in-loop-spot.ensures.value c.in_ok-push-2.ensures.items

pub returns : goal.returns
returns c = record {
  value = path_end c.args.scale c.args.path.now.first c.args.path.now.others.items c.deref-spot-items.result.now c.loop-spot.spot-index c.loop-spot.points.items c.deref-spot-items.ensures.value c.loop-spot-test.false c.loop-spot.invariant;
}
