use Rattle.std.proofs.Common.{◌∙◌, ap}
use Rattle.switch_net.proofs.Passes.{spread_next}
use Rattle.switch_net.proofs.spreading.spread.Goals as goal

pub loop-fet-preserved : goal.loop-fet-preserved
loop-fet-preserved c =
    spread_next _ _ c.as_slice-fet-items.result.now c.loop-fet.fet-index _ _ _ _ _ _ _ (c.as_slice-fet-items.ensures.value ∙ ap (λ parts. parts.fets) c.parts.view_is) c.loop-fet-test.true c.loop-fet.invariant c.join.ensures c.either-grown.ensures
