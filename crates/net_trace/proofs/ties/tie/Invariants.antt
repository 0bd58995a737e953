use Rattle.net_trace.proofs.Tying.{IsTying}
use Rattle.net_trace.proofs.ties.tie.Given as goal

abbrev pub invariant-loop-strip : goal.invariant-loop-strip
invariant-loop-strip l = IsTying l.wiring l.cut l.first l.second l.strip-items l.strip-index l.fn.pairs.items l.pairs.items
