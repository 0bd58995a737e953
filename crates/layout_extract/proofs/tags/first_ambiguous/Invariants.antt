use Rattle.std.proofs.Common.{MatchOption}
use Rattle.layout_extract.specs.Tags.{HasNoAmbiguous, HasAmbiguousAt}
use Rattle.layout_extract.proofs.tags.first_ambiguous.Given as goal

abbrev pub invariant-loop-k : goal.invariant-loop-k
invariant-loop-k l = MatchOption l.first (HasNoAmbiguous l.bindings l.k) (HasAmbiguousAt l.marks l.bindings l.k)
