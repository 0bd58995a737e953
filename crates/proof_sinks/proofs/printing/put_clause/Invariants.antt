use Rattle.std.proofs.Common.{◌≡◌, ◌≤◌, true, take, flat_map}
use Rattle.probe_io.specs.Written.{Appends}
use Rattle.clause_base.specs.ClauseText.{literal_text}
use Rattle.proof_sinks.proofs.printing.put_clause.Given as goal

-- the texts of the literals so far are written
abbrev pub invariant-loop-lit : goal.invariant-loop-lit
invariant-loop-lit g l = record {
  written : Appends (g.K.Sink.written l.fn.sink) (g.K.Sink.written l.sink) (flat_map literal_text (take l.lit-index l.clause));
  later : g.K.Sink.faults l.fn.sink ≤ g.K.Sink.faults l.sink;
  quiet : g.K.Sink.strict ≡ true → g.K.Sink.faults l.sink ≡ g.K.Sink.faults l.fn.sink;
}
