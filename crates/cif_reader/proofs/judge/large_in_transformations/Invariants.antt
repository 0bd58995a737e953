use Rattle.std.proofs.Common.{◌≡◌, drop}
use Rattle.std.specs.Prelude.{find, flat_map}
use Rattle.cif_grammar.specs.Seen.{transform_of}
use Rattle.cif_reader.specs.Faults.{is_large, of_transform}
use Rattle.cif_reader.proofs.judge.large_in_transformations.Given as goal

abbrev pub invariant-loop-transformation : goal.invariant-loop-transformation
invariant-loop-transformation l = find is_large (flat_map (λ t. of_transform (transform_of t)) l.transformations) ≡ find is_large (flat_map (λ t. of_transform (transform_of t)) (drop l.transformation-index l.transformations))
