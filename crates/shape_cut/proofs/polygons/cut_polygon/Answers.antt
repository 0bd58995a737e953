use Rattle.std.proofs.Common.{rules, w64, FitsSigned, to_z, refl}
use Rattle.std.proofs.lemmas.Int.{to_z-of_z}
use Rattle.shape_cut.proofs.Pairing.{not_falling}
use Rattle.shape_cut.proofs.Slabs.{cut_start, cut_more, cut_end, ends_even}
use Rattle.shape_cut.proofs.polygons.cut_polygon.Goals as goal

pub loop-next-init : goal.loop-next-init
loop-next-init c = cut_start c.args.points.now _ _ refl c.requires.near c.new-rects.ensures.items

pub pair_up-requires-clause-even : goal.pair_up-requires-clause-even
pair_up-requires-clause-even c =
    rw c.as_slice.ensures.value (ends_even c.args.points.now (to_z w64 c.loop-next.y-bits) _ _ c.requires.outline c.in_ok-read_crossings.ensures c.sort_unstable.ensures.permutation)

pub pair_up-requires-clause-sorted : goal.pair_up-requires-clause-sorted
pair_up-requires-clause-sorted c = rw c.as_slice.ensures.value (not_falling _ c.sort_unstable.ensures.sorted)

pub loop-next-preserved : goal.loop-next-preserved
loop-next-preserved c =
    let f : FitsSigned w64 c.in-Some.next = search rules in
    let paired = simp (to_z-of_z, c.as_slice.ensures.value) at c.in_ok-pair_up.ensures in
    simp to_z-of_z
    (cut_more c.args.points.now (to_z w64 c.loop-next.y-bits) c.in-Some.next c.loop-next.rects.items c.pair_up.new.rects.items _ _ c.loop-next.invariant
    c.in-Some.ensures.is c.in_ok-read_crossings.ensures c.sort_unstable.ensures.permutation paired)

pub returns-clause-cells : goal.returns-clause-cells
returns-clause-cells c = cut_end c.args.points.now (to_z w64 c.loop-next.y-bits) c.loop-next.rects.items c.loop-next.invariant c.in_default.ensures
