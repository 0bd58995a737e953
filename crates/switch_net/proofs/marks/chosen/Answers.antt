use Rattle.switch_net.specs.Switches.{value}
use Rattle.switch_net.proofs.Choosing.{chosen_more}
use Rattle.switch_net.proofs.marks.chosen.Goals as goal

pub loop-net-preserved : goal.loop-net-preserved
loop-net-preserved c = chosen_more (value c.args.marks.now) c.loop-net.nets.items c.push_marked.new.nets.items (record { 0 = c.loop-net.net }) c.loop-net.invariant c.in_ok-push_marked.ensures
