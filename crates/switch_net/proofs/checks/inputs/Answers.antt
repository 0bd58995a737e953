use Rattle.switch_net.specs.Inputs.{is_input}
use Rattle.switch_net.proofs.Choosing.{chosen_more}
use Rattle.switch_net.proofs.checks.inputs.Goals as goal

pub loop-net-preserved : goal.loop-net-preserved
loop-net-preserved c = chosen_more (is_input c.args.parts.now) c.loop-net.nets.items c.push_input.new.nets.items (record { 0 = c.loop-net.net }) c.loop-net.invariant c.in_ok-push_input.ensures
