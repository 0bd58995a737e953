use Rattle.std.proofs.Common.{◌≤◌, length}
use Rattle.search_trail.specs.Walking.{IsWalk}
use Rattle.search_trail.proofs.walk.walk_down.Given as goal

abbrev pub invariant-loop-place : goal.invariant-loop-place
invariant-loop-place l = record {
  inside : l.place ≤ length l.trail.lits;
  walk : IsWalk l.trail l.walk.seen.items l.place l.walk.kept.items l.walk.hints.items;
}

abbrev pub decreases-loop-place : goal.decreases-loop-place
decreases-loop-place l = l.place
