use Rattle.std.proofs.Common.{◌∙◌, sym, ap}
use Rattle.std.specs.Prelude.{find}
use Rattle.cif_grammar.specs.Seen.{transform_of}
use Rattle.cif_reader.specs.Faults.{is_large, of_transform}
use Rattle.cif_reader.proofs.Finding.{found_here, not_here, found_nowhere, flat_map_map}
use Rattle.cif_reader.proofs.judge.large_in_transformations.Goals as goal

pub returns-in-Some : goal.returns-in-Some
returns-in-Some c = found_here is_large (λ t. of_transform (transform_of t)) c.args.transformations.now c.loop-transformation.transformation-index _ c.in-Some.number _ c.loop-transformation-test.true c.loop-transformation.invariant (sym c.in-Some.ensures) ∙ sym (ap (find is_large) (flat_map_map of_transform transform_of c.args.transformations.now))

pub loop-transformation-preserved : goal.loop-transformation-preserved
loop-transformation-preserved c = not_here is_large (λ t. of_transform (transform_of t)) c.args.transformations.now c.loop-transformation.transformation-index _ _ c.loop-transformation-test.true c.loop-transformation.invariant (sym c.large_in_transformation.ensures ∙ c.in_default.is)

pub returns : goal.returns
returns c = found_nowhere is_large (λ t. of_transform (transform_of t)) c.args.transformations.now c.loop-transformation.transformation-index _ c.loop-transformation-test.false c.loop-transformation.invariant ∙ sym (ap (find is_large) (flat_map_map of_transform transform_of c.args.transformations.now))
