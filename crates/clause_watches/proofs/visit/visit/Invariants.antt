use Rattle.clause_watches.specs.Watching.{HasGrown}
use Rattle.clause_watches.specs.Visiting.{IsVisit}
use Rattle.clause_watches.proofs.visit.visit.Given as goal

abbrev pub invariant-loop-index : goal.invariant-loop-index
invariant-loop-index l = record {
  visit : IsVisit l.trail l.lists l.head l.gone l.index;
  grown : HasGrown l.fn.trail l.trail;
}

abbrev pub decreases-loop-index : goal.decreases-loop-index
decreases-loop-index l = l.index
