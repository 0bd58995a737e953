use Rattle.std.proofs.Common.{sym, ap, ◌∙◌, map, ◌∷◌, []}
use Rattle.std.proofs.lemmas.List.{map-append}
use Rattle.cif_grammar.specs.Seen.{transform_of}
use Rattle.cif_grammar.specs.Readers.{transform_at, transforms_at}
use Rattle.cif_grammar.proofs.Shorter.{transform_shorter}
use Rattle.cif_grammar.proofs.Repeats.{one_further, none_further}
use Rattle.cif_grammar.proofs.calls.transformations_of.Goals as goal

pub loop-transformation-smaller : goal.loop-transformation-smaller
loop-transformation-smaller c = transform_shorter _ _ _ _ (sym c.in-Some.ensures)

pub loop-transformation-preserved : goal.loop-transformation-preserved
unfolding transforms_at
loop-transformation-preserved c = one_further (transform_at c.args.total) (transform_shorter c.args.total) _ _ _ _ _ _ c.loop-transformation.invariant (sym c.in-Some.ensures) (ap (map transform_of) c.in_ok-push.ensures.items ∙ map-append transform_of c.loop-transformation.transformations.items (c.in-Some.transformation ∷ []))

pub returns : goal.returns
unfolding transforms_at
returns c = none_further (transform_at c.args.total) _ _ _ c.loop-transformation.invariant (sym c.in_default.ensures)
