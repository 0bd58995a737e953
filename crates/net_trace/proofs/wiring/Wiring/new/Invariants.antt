use Rattle.net_trace.proofs.Wires.{AreLaid}
use Rattle.net_trace.proofs.wiring.Wiring.new.Given as goal

abbrev pub invariant-loop-wire : goal.invariant-loop-wire
invariant-loop-wire l = AreLaid l.fn.wires.items l.vertices.items l.starts.items l.wire
