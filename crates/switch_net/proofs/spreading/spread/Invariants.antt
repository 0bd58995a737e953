use Rattle.std.proofs.Common.{take}
use Rattle.switch_net.specs.Switches.{value}
use Rattle.switch_net.specs.Spreads.{IsSpread}
use Rattle.switch_net.proofs.spreading.spread.Given as goal

abbrev pub invariant-loop-fet : goal.invariant-loop-fet
invariant-loop-fet l = IsSpread l.parts (value l.values) (take l.fet-index l.parts.fets) l.fn.marks.items l.marks.items l.grown
