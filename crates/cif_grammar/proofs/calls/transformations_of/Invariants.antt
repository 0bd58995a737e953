use Rattle.std.proofs.Common.{◌≡◌, ◌++◌, length, map}
use Rattle.cif_grammar.specs.Readers.{transforms_at}
use Rattle.cif_grammar.specs.Seen.{transform_of}
use Rattle.cif_grammar.proofs.calls.transformations_of.Given as goal

abbrev pub invariant-loop-transformation : goal.invariant-loop-transformation
invariant-loop-transformation l = let last = transforms_at l.total l.rest in transforms_at l.total l.bytes ≡ (map transform_of l.transformations.items ++ last.0, last.1)

abbrev pub decreases-loop-transformation : goal.decreases-loop-transformation
decreases-loop-transformation l = length l.rest
