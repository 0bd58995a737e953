use Rattle.switch_net.specs.Switches.{value}
use Rattle.switch_net.specs.Spreads.{room, IsFlooding}
use Rattle.switch_net.proofs.spreading.flood.Given as goal

abbrev pub invariant-loop : goal.invariant-loop
invariant-loop l = IsFlooding l.parts (value l.values) l.fn.start.0 l.marks.items

abbrev pub decreases-loop : goal.decreases-loop
decreases-loop l = room l.marks.items
