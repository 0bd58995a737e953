use Rattle.std.proofs.Common.{rules, ◌∙◌, arith, w32, FitsSigned, to_z, refl}
use Rattle.std.proofs.lemmas.Int.{ints, to_z-of_z}
use Rattle.mask_region.proofs.Joins.{join_start, join_more, join_end, split_further, row_steady, shown_to, still_joined}
use Rattle.mask_region.proofs.bands.join.Goals as goal

pub loop-next-init : goal.loop-next-init
loop-next-init c =
    join_start c.args.op c.args.a.now c.args.b.now _ _ _ _ _ _ _ c.requires.a_banded c.requires.b_banded c.new-first.ensures.index c.new-second.ensures.index refl c.new-first.ensures.row c.new-second.ensures.row c.new-out.ensures.items c.new-held.ensures.items

pub advance-requires-clause-passed : goal.advance-requires-clause-passed
advance-requires-clause-passed c =
    let f : FitsSigned w32 c.in-Some.next = search rules in
    simp to_z-of_z (split_further c.args.a.now (to_z w32 c.loop-next.y-bits) c.in-Some.next c.loop-next.first.index c.loop-next.invariant.a_split (omega (arith, ints, c.in-Some.ensures.in_a.later)))

pub advance-requires-clause-steady : goal.advance-requires-clause-steady
advance-requires-clause-steady c steady =
    let f : FitsSigned w32 c.in-Some.next = search rules in
    simp to_z-of_z (row_steady _ (to_z w32 c.loop-next.y-bits) c.in-Some.next c.loop-next.first.row.items c.in-Some.ensures.in_a c.loop-next.invariant.a_row (simp to_z-of_z at steady))

pub advance-requires-in-Some-clause-passed : goal.advance-requires-in-Some-clause-passed
advance-requires-in-Some-clause-passed c =
    let f : FitsSigned w32 c.in-Some.next = search rules in
    simp to_z-of_z (split_further c.args.b.now (to_z w32 c.loop-next.y-bits) c.in-Some.next c.loop-next.second.index c.loop-next.invariant.b_split (omega (arith, ints, c.in-Some.ensures.in_a.later)))

pub advance-requires-in-Some-clause-steady : goal.advance-requires-in-Some-clause-steady
advance-requires-in-Some-clause-steady c steady =
    let f : FitsSigned w32 c.in-Some.next = search rules in
    simp to_z-of_z (row_steady _ (to_z w32 c.loop-next.y-bits) c.in-Some.next c.loop-next.second.row.items c.in-Some.ensures.in_b c.loop-next.invariant.b_row (simp to_z-of_z at steady))

pub loop-next-preserved-then-stays : goal.loop-next-preserved-then-stays
loop-next-preserved-then-stays c =
    let f : FitsSigned w32 c.in-Some.next = search rules in
    let h : FitsSigned w32 (to_z w32 c.loop-next.y-bits) = search rules in
    let i : FitsSigned w32 (to_z w32 c.loop-next.from-bits) = search rules in
    simp to_z-of_z
    (join_more c.args.op c.args.a.now c.args.b.now c.loop-next.first.index c.loop-next.second.index (to_z w32 c.loop-next.y-bits) c.loop-next.first.row.items c.loop-next.second.row.items c.loop-next.out.items c.loop-next.held.items
    (to_z w32 c.loop-next.from-bits) c.in-Some.next _ _ _ _ _ _ _ c.loop-next.invariant
    c.in-Some.ensures.in_a c.in-Some.ensures.in_b
    (simp to_z-of_z at c.in_ok-advance.ensures.split) (simp to_z-of_z at c.in_ok-advance-2.ensures.split)
    (simp to_z-of_z at c.in_ok-advance.ensures.row) (simp to_z-of_z at c.in_ok-advance-2.ensures.row)
    (shown_to c.loop-next.out.items c.loop-next.held.items (to_z w32 c.loop-next.from-bits) (to_z w32 c.loop-next.y-bits) c.in-Some.next c.loop-next.invariant.shown c.in-Some.ensures.in_a.later)
    (λ x z. refl)
    (λ x. still_joined c.args.op _ _ _ _ _ _ c.loop-next.held.items x c.in_ok-advance.ensures.below.same c.in_ok-advance-2.ensures.below.same (c.if-stays.ensures refl x) (c.loop-next.invariant.now x)))

pub loop-next-preserved : goal.loop-next-preserved
loop-next-preserved c =
    let f : FitsSigned w32 c.in-Some.next = search rules in
    let g : FitsSigned w32 c.in_ok-from.from = search rules in
    let h : FitsSigned w32 (to_z w32 c.loop-next.y-bits) = search rules in
    let i : FitsSigned w32 (to_z w32 c.loop-next.from-bits) = search rules in
    let joins = simp (c.as_slice.ensures.value, c.as_slice-in-Some.ensures.value) at c.in_ok-join_rows.ensures.cells in
    simp to_z-of_z
    (join_more c.args.op c.args.a.now c.args.b.now c.loop-next.first.index c.loop-next.second.index (to_z w32 c.loop-next.y-bits) c.loop-next.first.row.items c.loop-next.second.row.items c.loop-next.out.items c.loop-next.held.items
    (to_z w32 c.loop-next.from-bits) c.in-Some.next _ _ _ _ _ _ _ c.loop-next.invariant
    c.in-Some.ensures.in_a c.in-Some.ensures.in_b
    (simp to_z-of_z at c.in_ok-advance.ensures.split) (simp to_z-of_z at c.in_ok-advance-2.ensures.split)
    (simp to_z-of_z at c.in_ok-advance.ensures.row) (simp to_z-of_z at c.in_ok-advance-2.ensures.row)
    (simp to_z-of_z at c.in_ok-from.ensures.shown) (simp to_z-of_z at c.in_ok-from.ensures.cells)
    (λ x. c.in_ok-from.ensures.now x ∙ joins x))

pub returns-clause-cells : goal.returns-clause-cells
returns-clause-cells c x z =
    let h : FitsSigned w32 (to_z w32 c.loop-next.y-bits) = search rules in
    let i : FitsSigned w32 (to_z w32 c.loop-next.from-bits) = search rules in
    let done = c.in_default.ensures.none refl in
    let cells = simp c.as_slice-2.ensures.value at c.in_ok-put_row.ensures.cells in
    cells x z
    ∙ join_end c.args.op c.args.a.now c.args.b.now c.loop-next.first.index c.loop-next.second.index (to_z w32 c.loop-next.y-bits) c.loop-next.first.row.items c.loop-next.second.row.items c.loop-next.out.items c.loop-next.held.items
    (to_z w32 c.loop-next.from-bits) x z c.loop-next.invariant done.0 done.1
