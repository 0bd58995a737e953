use Rattle.std.proofs.Common.{◌-◌, ◌+◌, length}
use Rattle.net_trace.proofs.Banding.{AreBandsTo}
use Rattle.net_trace.proofs.bands.bands.Given as goal

abbrev pub invariant-loop-upper : goal.invariant-loop-upper
invariant-loop-upper l = AreBandsTo l.vertices l.lower l.upper l.pairs.items

abbrev pub decreases-loop-upper : goal.decreases-loop-upper
decreases-loop-upper l = (length l.vertices - l.lower) + (length l.vertices - l.upper)
