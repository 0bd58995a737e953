use Rattle.std.proofs.Common.{◌∙◌}
use Rattle.std.proofs.lemmas.Result.{IfOk-weaker}
use Rattle.mask_region.specs.Strips.{is_in}
use Rattle.mask_region.proofs.Clipping.{clipped_meet}
use Rattle.mask_region.proofs.columns.meet_strips.Goals as goal

pub returns-clause-cells : goal.returns-clause-cells
returns-clause-cells c =
    let second = simp c.as_slice.ensures.value at c.in_ok-second.ensures.cells in
    let joins = simp (c.as_slice-2.ensures.value, c.as_slice-3.ensures.value) at c.join.ensures.cells in
    IfOk-weaker c.join.result _ _
    (λ v cells x y. cells x y
    ∙ clipped_meet (is_in c.args.a.now x y) (is_in c.args.b.now x y) (is_in c.in_ok-first.first.items x y) (is_in c.in_ok-second.second.items x y) (c.in_ok-first.ensures.cells x y) (second x y)) joins
