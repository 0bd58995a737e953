use Rattle.switch_net.proofs.Passes.{flooding_more, flooded}
use Rattle.switch_net.proofs.spreading.flood.Goals as goal

pub loop-preserved : goal.loop-preserved
loop-preserved c = flooding_more _ _ _ _ _ _ c.loop.invariant c.spread.ensures

pub returns-clause-flooded : goal.returns-clause-flooded
returns-clause-flooded c = flooded _ _ _ _ _ _ c.loop.invariant c.spread.ensures c.loop-test.false
