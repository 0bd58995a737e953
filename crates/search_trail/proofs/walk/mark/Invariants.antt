use Rattle.std.proofs.Common.{◌≡◌, ◌≤◌, ℕ, true, length, take}
use Rattle.search_trail.specs.Walking.{is_seen}
use Rattle.search_trail.proofs.Walks.{AreMarked}
use Rattle.search_trail.proofs.walk.mark.Given as goal

abbrev pub invariant-loop-lit : goal.invariant-loop-lit
invariant-loop-lit l = record {
  size : length l.seen.items ≡ length l.fn.seen.items;
  grown : (q : ℕ) → is_seen l.fn.seen.items q ≡ true → is_seen l.seen.items q ≡ true;
  others : (q : ℕ) → l.end ≤ q → is_seen l.seen.items q ≡ is_seen l.fn.seen.items q;
  marked : AreMarked l.trail.lits l.seen.items l.end (take l.lit-index l.clause);
}
