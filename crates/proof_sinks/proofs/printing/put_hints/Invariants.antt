use Rattle.std.proofs.Common.{◌≡◌, ◌≤◌, true, take, flat_map}
use Rattle.probe_io.specs.Written.{Appends}
use Rattle.refutation_check.specs.LineText.{hint_text}
use Rattle.proof_sinks.proofs.printing.put_hints.Given as goal

-- the texts of the hints so far are written
abbrev pub invariant-loop-hint : goal.invariant-loop-hint
invariant-loop-hint g l = record {
  written : Appends (g.K.Sink.written l.fn.sink) (g.K.Sink.written l.sink) (flat_map hint_text (take l.hint-index l.hints));
  later : g.K.Sink.faults l.fn.sink ≤ g.K.Sink.faults l.sink;
  quiet : g.K.Sink.strict ≡ true → g.K.Sink.faults l.sink ≡ g.K.Sink.faults l.fn.sink;
}
