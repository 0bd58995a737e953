use Rattle.std.proofs.Common.{◌≡◌, take, length}
use Rattle.search_trail.specs.Placing.{IsPlaced}
use Rattle.search_trail.proofs.places.Places.truncate.Given as goal

abbrev pub invariant-loop-self : goal.invariant-loop-self
invariant-loop-self l = record {
  vars : l.self-inside.vars ≡ l.fn.self.vars;
  placed : IsPlaced l.self-inside.vars l.self-inside.ranks.items l.self-inside.lits.items;
  front : take l.size l.self-inside.lits.items ≡ take l.size l.fn.self.lits;
}

abbrev pub decreases-loop-self : goal.decreases-loop-self
decreases-loop-self l = length l.self-inside.lits.items
