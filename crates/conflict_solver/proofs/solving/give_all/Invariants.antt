use Rattle.std.proofs.Common.{◌≡◌, ◌≤◌, true}
use Rattle.proof_sinks.specs.Calls.{KeepsTold}
use Rattle.conflict_solver.specs.Running.{IsGiving}
use Rattle.conflict_solver.proofs.solving.give_all.Given as goal

abbrev pub invariant-loop-clause : goal.invariant-loop-clause
invariant-loop-clause g l = record {
  live : g.P.ProofSink.live l.sink ≡ true;
  giving : IsGiving l.formula l.clause-index (g.P.ProofSink.said l.sink) l.solver.trail l.solver.watches l.conflict;
  left : l.solver.left ≡ l.fn.solver.left;
  later : g.P.ProofSink.faults l.fn.sink ≤ g.P.ProofSink.faults l.sink;
  quiet : g.P.ProofSink.strict ≡ true → g.P.ProofSink.faults l.sink ≡ g.P.ProofSink.faults l.fn.sink;
  whole : g.P.ProofSink.whole l.sink ≡ g.P.ProofSink.whole l.fn.sink;
  lender : g.P.ProofSink.lender l.sink ≡ g.P.ProofSink.lender l.fn.sink;
  before : KeepsTold (g.P.ProofSink.before l.fn.sink) (g.P.ProofSink.before l.sink);
}
