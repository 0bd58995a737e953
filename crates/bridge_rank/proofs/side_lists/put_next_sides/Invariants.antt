use Rattle.std.proofs.Common.{flat_map, take}
use Rattle.probe_io.specs.Devices.{IsPut, sink_at}
use Rattle.defect_sweep.specs.SideTexts.{next_text}
use Rattle.bridge_rank.proofs.side_lists.put_next_sides.Given as goal

-- the sides so far are written
abbrev pub invariant-loop-side : goal.invariant-loop-side
invariant-loop-side g l = record {
  written : IsPut (flat_map next_text (take l.side-index l.sides)) (sink_at g.K.Sink l.fn.sink) (sink_at g.K.Sink l.sink);
}
