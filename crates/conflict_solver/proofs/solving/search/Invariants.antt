use Rattle.std.proofs.Common.{◌≡◌, ◌≤◌, true}
use Rattle.proof_sinks.specs.Calls.{KeepsTold}
use Rattle.clause_watches.specs.Watching.{AreWatched}
use Rattle.conflict_solver.specs.Running.{IsUnderWay, work_left}
use Rattle.conflict_solver.proofs.solving.search.Given as goal

abbrev pub invariant-loop-verdict : goal.invariant-loop-verdict
invariant-loop-verdict g l = record {
  live : g.P.ProofSink.live l.sink ≡ true;
  kept : AreWatched l.solver.trail l.solver.watches;
  under_way : IsUnderWay l._formula l.fn.solver.left l.solver.left (g.P.ProofSink.said l.sink) l.solver.trail;
  later : g.P.ProofSink.faults l.fn.sink ≤ g.P.ProofSink.faults l.sink;
  quiet : g.P.ProofSink.strict ≡ true → g.P.ProofSink.faults l.sink ≡ g.P.ProofSink.faults l.fn.sink;
  whole : g.P.ProofSink.whole l.sink ≡ g.P.ProofSink.whole l.fn.sink;
  lender : g.P.ProofSink.lender l.sink ≡ g.P.ProofSink.lender l.fn.sink;
  before : KeepsTold (g.P.ProofSink.before l.fn.sink) (g.P.ProofSink.before l.sink);
}

abbrev pub decreases-loop-verdict : goal.decreases-loop-verdict
decreases-loop-verdict g l = work_left l.solver.left l.solver.trail
