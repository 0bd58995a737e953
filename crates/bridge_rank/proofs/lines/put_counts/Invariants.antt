use Rattle.std.proofs.Common.{flat_map, take}
use Rattle.probe_io.specs.Devices.{IsPut, sink_at}
use Rattle.bridge_rank.specs.Lines.{wire_count, line_names}
use Rattle.bridge_rank.proofs.lines.put_counts.Given as goal

-- the counts so far are written
abbrev pub invariant-loop-count : goal.invariant-loop-count
invariant-loop-count g l = record {
  written : IsPut (flat_map (wire_count (line_names l.wires)) (take l.count-index l.counts)) (sink_at g.K.Sink l.fn.sink) (sink_at g.K.Sink l.sink);
}
