-- The order in which pairs of nets are listed.
use Rattle.std.specs.Prelude.{◌≤◌, List, length, IsPermutation, IsSorted}
use Rattle.std.specs.declared.cmp.Ordering.{Ordering}
use Rattle.std.specs.Ordering.{nat_cmp, ordering_then}
use Rattle.net_trace.specs.Touching.{Nets}
use Rattle.defect_sweep.specs.declared.sides.SideWeight.{SideWeight}
use Rattle.defect_sweep.specs.Counting.{BridgeCount}
use Rattle.defect_sweep.specs.Bridges.{AreCounts}

-- larger counts first, and of equal ones the smaller first net, then the smaller second net
abbrev pub rank_order : BridgeCount → BridgeCount → Ordering
rank_order p q = ordering_then (nat_cmp q.total p.total) (ordering_then (nat_cmp p.pair.a.0 q.pair.a.0) (nat_cmp p.pair.b.0 q.pair.b.0))

-- The list has the counts, in the order of their ranks.
pub record IsRanked (counts ranked : List BridgeCount) : Type 0 where
  pub same : IsPermutation counts ranked
  pub order : IsSorted rank_order ranked

-- The list has each two nets that some placement of a square of these sides meets on a wire, with their counts, in the
-- order of their ranks. There are not too many.
pub record IsRanking (nets : Nets) (sides : List SideWeight) (ranked : List BridgeCount) : Type 0 where
  pub counts : List BridgeCount
  pub counted : AreCounts nets sides counts
  pub few : length counts ≤ 65536
  pub ranks : IsRanked counts ranked
