use Rattle.std.proofs.Common.{◌<◌, length}
use Rattle.link_classes.specs.Forest.{HasClimbed}
use Rattle.link_classes.proofs.forest.root_of.Given as goal

abbrev pub invariant-loop-at : goal.invariant-loop-at
invariant-loop-at l = record {
  inside : l.at < length l.fn.parents.items;
  climbed : HasClimbed l.fn.parents.items l.parents.items l.fn.x l.at;
}

abbrev pub decreases-loop-at : goal.decreases-loop-at
decreases-loop-at l = l.at
