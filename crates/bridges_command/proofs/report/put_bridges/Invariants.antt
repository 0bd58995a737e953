use Rattle.std.proofs.Common.{take}
use Rattle.probe_io.specs.Devices.{IsPut, sink_at}
use Rattle.bridge_rank.specs.Lines.{line_names}
use Rattle.bridges_command.specs.Report.{bridge_lines}
use Rattle.bridges_command.proofs.report.put_bridges.Given as goal

-- the lines so far are written
abbrev pub invariant-loop-index : goal.invariant-loop-index
invariant-loop-index g l = record {
  written : IsPut (bridge_lines (line_names l.listed.wires.now) l.listed.names.now 1 (take l.index l.listed.ranked.now)) (sink_at g.K.Sink l.fn.out) (sink_at g.K.Sink l.out);
}
