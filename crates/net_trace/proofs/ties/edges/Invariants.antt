use Rattle.net_trace.proofs.Edging.{AreEdgesTo}
use Rattle.net_trace.proofs.ties.edges.Given as goal

abbrev pub invariant-loop-cut : goal.invariant-loop-cut
invariant-loop-cut l = AreEdgesTo l.wiring l.cuts l.cut-index l.pairs.items
