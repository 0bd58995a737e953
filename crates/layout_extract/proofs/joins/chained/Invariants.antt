use Rattle.layout_extract.specs.Tags.{AreChained}
use Rattle.layout_extract.proofs.joins.chained.Given as goal

abbrev pub invariant-loop-k : goal.invariant-loop-k
invariant-loop-k l = AreChained l.nets l.k l.pairs.items
