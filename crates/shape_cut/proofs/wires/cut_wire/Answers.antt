use Rattle.std.proofs.Common.{arith, w64, FitsSigned, refl}
use Rattle.std.proofs.lemmas.Int.{to_z-of_z}
use Rattle.shape_cut.proofs.Segments.{widened_more, widened_end, one_cells, one_inside}
use Rattle.shape_cut.proofs.wires.cut_wire.Goals as goal

pub returns-then-path-eq1-clause-cells : goal.returns-then-path-eq1-clause-cells
returns-then-path-eq1-clause-cells c =
    let f : FitsSigned w64 c.args.half = c.ranges.half in
    let around = simp to_z-of_z at c.around.ensures in
    one_cells c.args.half c.args.path.now _ (omega arith) (rw (c.in_ok-push.ensures.items, c.new-rects.ensures.items, around) refl)

pub returns-then-path-eq1-clause-inside : goal.returns-then-path-eq1-clause-inside
returns-then-path-eq1-clause-inside c r held =
    let f : FitsSigned w64 c.args.half = c.ranges.half in
    let around = simp to_z-of_z at c.around.ensures in
    one_inside c.args.half c.args.path.now _ r c.requires.some (rw (c.in_ok-push.ensures.items, c.new-rects.ensures.items, around) refl) held

pub loop-k-preserved : goal.loop-k-preserved
loop-k-preserved c =
    let f : FitsSigned w64 c.args.half = c.ranges.half in
    let around = simp to_z-of_z at c.around-in-loop-k.ensures in
    simp to_z-of_z
    (widened_more c.args.half c.args.path.now c.loop-k.k c.loop-k.from c.loop-k.rects.items _ c.loop-k-test.true c.requires.thick c.requires.near
    (rw (c.in_ok-push-2.ensures.items, around) refl) (simp to_z-of_z at c.loop-k.invariant))

pub returns-clause-cells : goal.returns-clause-cells
returns-clause-cells c =
    let f : FitsSigned w64 c.args.half = c.ranges.half in
    widened_end c.args.half c.args.path.now c.loop-k.k c.loop-k.from c.loop-k.rects.items c.loop-k-test.false (simp to_z-of_z at c.loop-k.invariant)

pub returns-clause-inside : goal.returns-clause-inside
returns-clause-inside c r held =
    let f : FitsSigned w64 c.args.half = c.ranges.half in
    let so_far = simp to_z-of_z at c.loop-k.invariant in
    so_far.inside r held
