use Rattle.std.proofs.Common.{◌≡◌, ◌≤◌, true, take}
use Rattle.probe_io.specs.Text.{pieces_text}
use Rattle.probe_io.specs.Written.{Appends}
use Rattle.probe_io.proofs.pieces.put_pieces.Given as goal

-- the texts of the pieces so far are written
abbrev pub invariant-loop-piece : goal.invariant-loop-piece
invariant-loop-piece g l = record {
  written : Appends (g.K.Sink.written l.fn.sink) (g.K.Sink.written l.sink) (pieces_text (take l.piece-index l.pieces));
  later : g.K.Sink.faults l.fn.sink ≤ g.K.Sink.faults l.sink;
  quiet : g.K.Sink.strict ≡ true → g.K.Sink.faults l.sink ≡ g.K.Sink.faults l.fn.sink;
  lender : g.K.Sink.lender l.sink ≡ g.K.Sink.lender l.fn.sink;
}
