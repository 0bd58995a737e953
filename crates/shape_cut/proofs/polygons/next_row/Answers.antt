use Rattle.std.proofs.Common.{rules, w64, FitsSigned}
use Rattle.std.proofs.lemmas.Int.{to_z-of_z}
use Rattle.shape_cut.proofs.Segments.{point_at}
use Rattle.shape_cut.proofs.Slabs.{next_more}
use Rattle.shape_cut.proofs.polygons.next_row.Goals as goal

pub loop-p-preserved : goal.loop-p-preserved
loop-p-preserved c =
    let f : FitsSigned w64 c.args.y = c.ranges.y in
    let g : FitsSigned w64 (point_at c.args.points.now c.loop-p.p-index).y = search rules in
    simp to_z-of_z
    (next_more c.args.points.now c.loop-p.p-index c.args.y c.loop-p.next _ c.loop-p-test.true c.requires (simp to_z-of_z at c.nearer-next.ensures) (simp to_z-of_z at c.loop-p.invariant))
