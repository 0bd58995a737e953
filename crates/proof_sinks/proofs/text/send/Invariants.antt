use Rattle.std.proofs.Common.{◌≡◌, true, length, take, ◌+◌, ◌-◌, ◌≤◌}
use Rattle.probe_io.specs.Written.{Appends}
use Rattle.proof_sinks.proofs.text.send.Given as goal

-- a front of the bytes is written and counted, of which `done` is the length
abbrev pub invariant-loop-done : goal.invariant-loop-done
invariant-loop-done g l = record {
  in_range : l.done ≤ length l.bytes;
  counted : l.sent ≡ l.fn.sent + l.done;
  written : Appends (g.K.Sink.written l.fn.sink) (g.K.Sink.written l.sink) (take l.done l.bytes);
  later : g.K.Sink.faults l.fn.sink ≤ g.K.Sink.faults l.sink;
  quiet : g.K.Sink.strict ≡ true → g.K.Sink.faults l.sink ≡ g.K.Sink.faults l.fn.sink;
  lender : g.K.Sink.lender l.sink ≡ g.K.Sink.lender l.fn.sink;
}

abbrev pub decreases-loop-done : goal.decreases-loop-done
decreases-loop-done g l = length l.bytes - l.done
