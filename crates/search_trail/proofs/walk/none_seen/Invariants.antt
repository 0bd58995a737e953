use Rattle.std.proofs.Common.{◌≡◌, ◌-◌, ◌<◌, ◌≤◌, ℕ, false}
use Rattle.search_trail.specs.Walking.{is_seen}
use Rattle.search_trail.proofs.walk.none_seen.Given as goal

abbrev pub invariant-loop-place : goal.invariant-loop-place
invariant-loop-place l = record {
  most : l.place ≤ l.end;
  none : (q : ℕ) → l.place ≤ q → q < l.end → is_seen l.seen q ≡ false;
}

abbrev pub decreases-loop-place : goal.decreases-loop-place
decreases-loop-place l = l.place - l.start
