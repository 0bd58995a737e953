use Rattle.net_trace.specs.Wirings.{ArePicked}
use Rattle.net_trace.proofs.joining.picked.Given as goal

abbrev pub invariant-loop-k : goal.invariant-loop-k
invariant-loop-k l = ArePicked l.nodes l.indices l.k-index l.new.items
