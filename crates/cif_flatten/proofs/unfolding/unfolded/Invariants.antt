use Rattle.std.proofs.Common.{◌+◌}
use Rattle.cif_flatten.specs.Unrolling.{Walking, waiting, count_within}
use Rattle.cif_flatten.proofs.unfolding.unfolded.Given as goal

abbrev pub invariant-loop-command : goal.invariant-loop-command
invariant-loop-command l = record {
  walk : Walking l.file (l.fn.size.calls + l.fn.size.weight) l.commands.items l.pending.items;
}

abbrev pub decreases-loop-command : goal.decreases-loop-command
decreases-loop-command l = count_within (l.fn.size.calls + l.fn.size.weight) l.file.symbols (waiting l.pending.items)
