use Rattle.net_trace.specs.Wirings.{AreCorners}
use Rattle.net_trace.proofs.tracing.corners.Given as goal

abbrev pub invariant-loop-k : goal.invariant-loop-k
invariant-loop-k l = AreCorners l.vertices l.indices l.k-index l.nodes.items
