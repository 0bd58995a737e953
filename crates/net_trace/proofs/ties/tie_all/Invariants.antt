use Rattle.net_trace.proofs.Tying.{IsTyingAll}
use Rattle.net_trace.proofs.ties.tie_all.Given as goal

abbrev pub invariant-loop-first : goal.invariant-loop-first
invariant-loop-first l = IsTyingAll l.wiring l.cut l.first-index 0 l.fn.pairs.items l.pairs.items

abbrev pub invariant-loop-second : goal.invariant-loop-second
invariant-loop-second l = IsTyingAll l.wiring l.cut l.first-index l.second-index l.fn.pairs.items l.pairs.items
