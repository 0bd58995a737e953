-- Both devices of a report.
use Rattle.probe_io.specs.declared.outside.Shelf.{Ghosts as ShelfGhosts}
use Rattle.probe_io.specs.declared.outside.Sink.{Ghosts as SinkGhosts}
use Rattle.probe_io.specs.Devices.{ShelfState, SinkState, shelf_at, sink_at}

-- the shelf that is read from, and the sink of the report
pub record Desk : Type 0 where
  pub shelf : ShelfState
  pub out : SinkState

abbrev pub desk : {S T : Type 0} → ShelfGhosts S → SinkGhosts T → S → T → Desk
desk shelf sink s t = record { shelf = shelf_at shelf s; out = sink_at sink t }
