use Rattle.std.proofs.Common.{refl}
use Rattle.std.specs.Prelude.{pos, neg_ℤ}
use Rattle.layer_map.specs.Views.{fet_seen}
use Rattle.device_extract.proofs.FetLists.{line_at}
use Rattle.device_extract.proofs.SideLists.{sides_more, side_at}
use Rattle.device_extract.proofs.sides.sides.Goals as goal

pub loop-k-preserved : goal.loop-k-preserved
loop-k-preserved c =
    let at = line_at c.fets-line-items.result.now c.args.map.now.fets c.loop-k.k c.line-item.result c.line-item.result c.fets-line-items.ensures.same c.loop-k-test.true c.line-item.is in
    sides_more c.args.map.now.fets c.loop-k.k (fet_seen c.line-item.result) at c.loop-k.sides.items c.push.new.self.items c.push-in-loop-k.new.self.items c.push-in-loop-k-2.new.self.items c.push-in-loop-k-3.new.self.items
    c.side_of.result c.side_of-in-loop-k.result c.side_of-in-loop-k-2.result c.side_of-in-loop-k-3.result c.loop-k.invariant
    (side_at c.side_of.result c.loop-k.k c.line-item.result.diff (pos 1) (pos 0) c.line-item.result.diff.0 c.side_of.ensures refl)
    (side_at c.side_of-in-loop-k.result c.loop-k.k c.line-item.result.diff (neg_ℤ (pos 1)) (pos 0) c.line-item.result.diff.0 c.side_of-in-loop-k.ensures refl)
    (side_at c.side_of-in-loop-k-2.result c.loop-k.k c.line-item.result.diff (pos 0) (pos 1) c.line-item.result.diff.0 c.side_of-in-loop-k-2.ensures refl)
    (side_at c.side_of-in-loop-k-3.result c.loop-k.k c.line-item.result.diff (pos 0) (neg_ℤ (pos 1)) c.line-item.result.diff.0 c.side_of-in-loop-k-3.ensures refl)
    c.in_ok-push.ensures.items c.in_ok-push-2.ensures.items c.in_ok-push-3.ensures.items c.in_ok-push-4.ensures.items
