use Rattle.std.proofs.Common.{length, ◌-◌, ◌<◌, ◌≤◌, ℕ}
use Rattle.search_trail.specs.Trails.{start_at}
use Rattle.search_trail.proofs.analysis.level_of.Given as goal

abbrev pub invariant-loop-level : goal.invariant-loop-level
invariant-loop-level l = record {
  most : l.level ≤ length l.starts;
  low : (j : ℕ) → j < l.level → start_at l.starts j ≤ l.place;
}

abbrev pub decreases-loop-level : goal.decreases-loop-level
decreases-loop-level l = length l.starts - l.level
