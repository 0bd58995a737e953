use Rattle.std.proofs.Common.{subst, sym, refl}
use Rattle.std.proofs.lemmas.Bool.{both_ways}
use Rattle.net_trace.specs.Touching.{has_node}
use Rattle.layout_extract.specs.Tags.{IsTagOf, HasNode}
use Rattle.layout_extract.proofs.Places.{zip_more, zip_whole}
use Rattle.layout_extract.proofs.tags.tags.Goals.{in-Some+in_ok-push, in_default}
use Rattle.layout_extract.proofs.tags.tags.Goals as goal

pub loop-spot-preserved : goal.loop-spot-preserved
loop-spot-preserved c = elim c.match-net_at.branch [
  | in-Some+in_ok-push w ↦ rw (w.tags-is, w.in_ok-push.ensures.items)
      (zip_more (IsTagOf c.args.traced.now) c.args.spots.now c.loop-spot.tags.items c.loop-spot.spot-index c.spot-item.result _ c.loop-spot-test.true c.spot-item.is c.loop-spot.invariant (record { name = refl; number = w.in-Some.ensures }))
  | in_default w ↦ absurd (both_ways (has_node c.args.traced.now c.spot-item.result.wire.0 c.spot-item.result.cell.x c.spot-item.result.cell.y) w.in_default.ensures
      (subst (λ s. HasNode c.args.traced.now s) (sym c.spot-item.is) (c.requires c.loop-spot.spot-index c.spot-item.result c.loop-spot-test.true)))
]

pub returns : goal.returns
returns c = zip_whole (IsTagOf c.args.traced.now) c.args.spots.now c.loop-spot.tags.items c.loop-spot.spot-index c.loop-spot-test.false c.loop-spot.invariant
