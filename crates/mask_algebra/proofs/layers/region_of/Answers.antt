use Rattle.std.proofs.lemmas.Result.{IfOk-weaker}
use Rattle.mask_algebra.proofs.Layering.{layer_is}
use Rattle.mask_algebra.proofs.layers.region_of.Goals as goal

pub returns : goal.returns
returns c =
    IfOk-weaker c.of_rects.result _ _
    (λ r cells. layer_is c.args.draws.now c.args.name c.in_ok-rects.rects.items r c.in_ok-rects.ensures.cells c.in_ok-rects.ensures.within cells)
    (simp c.as_slice.ensures.value at c.of_rects.ensures)
