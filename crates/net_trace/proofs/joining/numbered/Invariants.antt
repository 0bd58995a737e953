use Rattle.net_trace.specs.Wirings.{AreRenumbered}
use Rattle.net_trace.proofs.joining.numbered.Given as goal

abbrev pub invariant-loop-k : goal.invariant-loop-k
invariant-loop-k l = AreRenumbered l.second l.label l.k-index l.new.items
