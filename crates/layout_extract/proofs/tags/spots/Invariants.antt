use Rattle.layout_extract.specs.Tags.{AreSpotsOf}
use Rattle.layout_extract.proofs.tags.spots.Given as goal

abbrev pub invariant-loop-k : goal.invariant-loop-k
invariant-loop-k l = AreSpotsOf l.marks l.bindings l.k l.spots.items
