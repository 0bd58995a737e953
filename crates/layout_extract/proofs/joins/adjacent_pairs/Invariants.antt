use Rattle.layout_extract.specs.Tags.{AreAdjacent}
use Rattle.layout_extract.proofs.joins.adjacent_pairs.Given as goal

abbrev pub invariant-loop-k : goal.invariant-loop-k
invariant-loop-k l = AreAdjacent l.tags l.k l.pairs.items
