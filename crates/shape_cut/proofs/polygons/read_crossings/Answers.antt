use Rattle.std.proofs.Common.{w64, FitsSigned}
use Rattle.std.proofs.lemmas.Int.{to_z-of_z}
use Rattle.std.proofs.lemmas.Result.{on_ok_weaker}
use Rattle.shape_cut.proofs.Segments.{point_at}
use Rattle.shape_cut.proofs.Crossings.{crossings_more, crossings_end}
use Rattle.shape_cut.proofs.polygons.read_crossings.Goals as goal

pub loop-k-preserved : goal.loop-k-preserved
loop-k-preserved c =
    let f : FitsSigned w64 c.args.y = c.ranges.y in
    simp to_z-of_z
    (crossings_more c.args.points.now c.loop-k.k (point_at c.args.points.now 0) c.args.y c.loop-k.from c.loop-k.ends.items _ c.loop-k-test.true
    (simp to_z-of_z at c.in_ok-cross.ensures) (simp to_z-of_z at c.loop-k.invariant))

pub returns : goal.returns
returns c =
    let f : FitsSigned w64 c.args.y = c.ranges.y in
    let so_far = simp to_z-of_z at c.loop-k.invariant in
    let crossed = simp to_z-of_z at c.cross-2.ensures in
    on_ok_weaker c.cross-2.result
    (λ e. crossings_end c.args.points.now c.loop-k.k (point_at c.args.points.now 0) c.args.y c.loop-k.from c.loop-k.ends.items c.cross-2.new.ends.items c.loop-k-test.false e so_far) crossed
