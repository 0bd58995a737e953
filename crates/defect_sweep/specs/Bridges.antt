-- The bridges of a layout's nets.
use Rattle.std.specs.Prelude.{◌≡◌, ◌<◌, List, length, ◌^◌}
use Rattle.std.specs.List.{All}
use Rattle.mask_region.specs.declared.strips.Strip.{Strip}
use Rattle.net_trace.specs.Touching.{Nets}
use Rattle.net_trace.specs.Nets.{AreRegionsOf}
use Rattle.defect_sweep.specs.declared.sides.SideWeight.{SideWeight}
use Rattle.defect_sweep.specs.Counting.{BridgeCount, counts_of}

-- The list has the pairs of nets that some placement meets on a wire, with their counts.
pub record AreCounts (nets : Nets) (sides : List SideWeight) (list : List BridgeCount) : Type 0 where
  pub regions : List (List Strip)
  pub are : AreRegionsOf nets regions
  pub is : list ≡ counts_of sides are.count (length nets.wires) regions

-- More than 65,536 pairs have a placement that meets both on a wire.
pub record HasManyBridges (nets : Nets) (sides : List SideWeight) : Type 0 where
  pub list : List BridgeCount
  pub are : AreCounts nets sides list
  pub many : 65536 < length list

-- The count on each wire is below 2^59, and the total below 2^63.
pub record IsFitting (count : BridgeCount) : Type 0 where
  pub total : count.total < 2 ^ 63
  pub on : All (λ c. c.1 < 2 ^ 59) count.on
