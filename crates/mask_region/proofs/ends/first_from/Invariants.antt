use Rattle.std.proofs.Common.{◌-◌, length}
use Rattle.std.specs.Prelude.{◌≤◌}
use Rattle.mask_region.specs.Rows.{IsBelowFrom}
use Rattle.mask_region.proofs.ends.first_from.Given as goal

abbrev pub invariant-loop-low : goal.invariant-loop-low
invariant-loop-low l = IsBelowFrom l.ends l.k l.limit l.low

abbrev pub decreases-loop-low : goal.decreases-loop-low
decreases-loop-low l = length l.ends - l.low

abbrev pub invariant-loop-low-2 : goal.invariant-loop-low-2
invariant-loop-low-2 l = IsBelowFrom l.ends l.k l.limit l.low × (l.low ≤ l.high) × (l.high ≤ length l.ends)

abbrev pub decreases-loop-low-2 : goal.decreases-loop-low-2
decreases-loop-low-2 l = l.high - l.low
