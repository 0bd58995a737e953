use Rattle.net_trace.specs.Wirings.{AreEndsOf}
use Rattle.net_trace.proofs.joining.add_ends.Given as goal

abbrev pub invariant-loop-first : goal.invariant-loop-first
invariant-loop-first l = AreEndsOf l.roots l.pairs l.first-index l.fn.joins.items l.joins.items
