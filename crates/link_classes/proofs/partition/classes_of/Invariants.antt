use Rattle.std.proofs.Common.{◌≡◌, ℕ, take}
use Rattle.std.specs.List.{All}
use Rattle.link_classes.specs.Classes.{has_pair}
use Rattle.link_classes.specs.Forest.{IsForest, IsOnTrees, IsLinkedForest}
use Rattle.link_classes.proofs.partition.classes_of.Given as goal

abbrev pub invariant-loop-a : goal.invariant-loop-a
invariant-loop-a l = record {
  forest : IsForest l.fn.size l.parents.items;
  joined : (value : ℕ → ℕ) → IsOnTrees l.parents.items value → All (λ p. value p.0 ≡ value p.1) (take l.a-index l.pairs);
  linked : IsLinkedForest (has_pair l.pairs) l.parents.items;
}
