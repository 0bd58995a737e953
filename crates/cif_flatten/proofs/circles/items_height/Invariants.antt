use Rattle.std.proofs.Common.{take}
use Rattle.cif_flatten.specs.Ranking.{rank_of, IsHeight}
use Rattle.cif_flatten.proofs.circles.items_height.Given as goal

abbrev pub invariant-loop-item : goal.invariant-loop-item
invariant-loop-item l = IsHeight (rank_of l.ranks) (take l.item-index l.items) l.height
