use Rattle.std.proofs.Common.{◌≡◌, length}
use Rattle.link_classes.specs.Forest.{AreNumberedTrees}
use Rattle.link_classes.proofs.partition.numbered.Given as goal

abbrev pub invariant-loop-x : goal.invariant-loop-x
invariant-loop-x l = record {
  each : length l.label.items ≡ l.x;
  numbered : AreNumberedTrees l.parents l.label.items l.least.items;
}
