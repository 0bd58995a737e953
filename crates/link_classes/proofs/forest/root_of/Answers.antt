use Rattle.std.proofs.Common.{◌≡◌, ◌<◌, length, ◌∙◌, ap, arith, slice_index}
use Rattle.std.proofs.lemmas.Grind.{get_or_default_zero}
use Rattle.link_classes.proofs.Forests.{climbed_more}
use Rattle.link_classes.proofs.forest.root_of.Goals as goal

pub loop-at-preserved : goal.loop-at-preserved
loop-at-preserved c =
    let parents = c.loop-at.parents.items in
    let forest = c.loop-at.invariant.climbed.forest in
    let at_in : c.loop-at.at < length parents = omega (arith, c.loop-at.invariant.inside, forest.each) in
    let parent : c.index-in-loop-at.result.now ≡ slice_index parents c.loop-at.at = c.index-in-loop-at.ensures ∙ get_or_default_zero parents c.loop-at.at _ at_in in
    let low : c.index-in-loop-at.result.now < length parents = omega (arith, parent, forest.down c.loop-at.at c.loop-at.invariant.inside, at_in) in
    let above : c.index-above.result.now ≡ slice_index parents (slice_index parents c.loop-at.at) =
    c.index-above.ensures ∙ get_or_default_zero parents c.index-in-loop-at.result.now _ low ∙ ap (λ k. slice_index parents k) parent in
    let climbed = climbed_more _ _ _ _ _ c.loop-at.invariant.inside above c.loop-at.invariant.climbed in
    record { inside = omega (arith, climbed.below, c.requires.inside); climbed = climbed }
