use Rattle.net_trace.specs.Wirings.{AreParts}
use Rattle.net_trace.proofs.parts.parts.Given as goal

abbrev pub invariant-loop-i : goal.invariant-loop-i
invariant-loop-i l = AreParts l.vertices l.label l.nets l.wires l.i l.regions.items
