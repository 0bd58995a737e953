use Rattle.std.proofs.Common.{◌^◌, ◌∙◌, sym}
use Rattle.mask_region.proofs.Within.{within-rects, rects_wider}
use Rattle.layout_tests.proofs.mask_region_tests.region.Goals as goal

pub of_rects-requires : goal.of_rects-requires
of_rects-requires c = rw c.as_slice.ensures.value (rects_wider _ c.in_ok-rects.ensures)

pub returns : goal.returns
returns c =
    let cells = simp c.as_slice.ensures.value at c.in_ok-region.ensures in
    within-rects (2 ^ 24) _ _ c.strips-strips.ensures.banded c.in_ok-rects.ensures (λ x y e. sym (cells x y) ∙ e)
