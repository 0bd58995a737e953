use Rattle.std.proofs.Common.{rules, w64, FitsSigned, ◌+◌, refl}
use Rattle.std.proofs.lemmas.Int.{to_z-of_z}
use Rattle.shape_cut.specs.Slabs.{x_at}
use Rattle.shape_cut.proofs.Pairing.{pair_more, pair_end}
use Rattle.shape_cut.proofs.polygons.pair_up.Goals as goal

pub loop-k-preserved : goal.loop-k-preserved
loop-k-preserved c =
    let low : FitsSigned w64 c.args.y0 = c.ranges.y0 in
    let high : FitsSigned w64 c.args.y1 = c.ranges.y1 in
    let left : FitsSigned w64 (x_at c.args.ends.now c.loop-k.k) = search rules in
    let right : FitsSigned w64 (x_at c.args.ends.now (c.loop-k.k + 1)) = search rules in
    let items = simp to_z-of_z at c.in_ok-push.ensures.items in
    simp to_z-of_z
    (pair_more c.args.rects.now.items c.args.ends.now c.loop-k.k c.args.y0 c.args.y1 c.loop-k.rects.items _ _ c.requires.sorted c.requires.order c.loop-k-test.true refl items
    (simp to_z-of_z at c.loop-k.invariant))

pub returns : goal.returns
returns c =
    let low : FitsSigned w64 c.args.y0 = c.ranges.y0 in
    let high : FitsSigned w64 c.args.y1 = c.ranges.y1 in
    pair_end c.args.rects.now.items c.args.ends.now c.loop-k.k c.args.y0 c.args.y1 c.loop-k.rects.items c.requires.even c.loop-k-test.false (simp to_z-of_z at c.loop-k.invariant)
