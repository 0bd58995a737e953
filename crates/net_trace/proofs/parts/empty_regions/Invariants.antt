use Rattle.net_trace.specs.Wirings.{AreEmpty}
use Rattle.net_trace.proofs.parts.empty_regions.Given as goal

abbrev pub invariant-loop : goal.invariant-loop
invariant-loop l = AreEmpty l.counter l.regions.items
