use Rattle.std.proofs.Common.{subst}
use Rattle.mask_algebra.specs.Masks.{IsMask}
use Rattle.mask_algebra.proofs.Lines.{made_more}
use Rattle.mask_algebra.proofs.evaluation.masks_of.Goals as goal

pub loop-line-preserved : goal.loop-line-preserved
loop-line-preserved g c =
    rw c.in_ok-push.ensures.items
    (made_more c.loop-line.canvas c.mask.new.self c.args.canvas.now g.L.MaskLine.formula c.args.lines.now c.loop-line.line-index c.line-item.result c.loop-line.masks.items c.in_ok-mask.field-0
    c.loop-line-test.true c.line-item.is c.loop-line.invariant c.in_ok-mask.ensures.same
    (subst (λ f. IsMask c.loop-line.canvas f c.in_ok-mask.field-0) c.expr.ensures c.in_ok-mask.ensures.mask) c.in_ok-mask.ensures.near)
