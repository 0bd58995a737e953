use Rattle.std.proofs.Common.{◌≡◌, take}
use Rattle.search_trail.specs.Walking.{falses}
use Rattle.search_trail.proofs.analysis.negations.Given as goal

abbrev pub invariant-loop-place : goal.invariant-loop-place
invariant-loop-place l = l.negated.items ≡ falses l.lits (take l.place-index l.places)
