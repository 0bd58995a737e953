use Rattle.std.proofs.Common.{◌+◌, ◌*◌, ◌-◌}
use Rattle.clause_watches.specs.Watching.{AreWatched, HasGrown}
use Rattle.clause_watches.specs.Visiting.{watched_at}
use Rattle.clause_watches.proofs.watches.Watches.propagate.Given as goal

abbrev pub invariant-loop-self : goal.invariant-loop-self
invariant-loop-self l = record {
  kept : AreWatched l.trail (watched_at l.self-inside.lists l.self-inside.head);
  grown : HasGrown l.fn.trail l.trail;
}

abbrev pub decreases-loop-self : goal.decreases-loop-self
decreases-loop-self l = l.fn.trail.vars * 2 + 2 - l.self-inside.head
