use Rattle.mask_algebra.specs.Layers.{AreCut}
use Rattle.mask_algebra.proofs.layers.rects_of.Given as goal

abbrev pub invariant-loop-draw : goal.invariant-loop-draw
invariant-loop-draw l = AreCut l.draws l.name l.draw-index l.rects.items
