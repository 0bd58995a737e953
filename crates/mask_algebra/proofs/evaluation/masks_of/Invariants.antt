use Rattle.std.proofs.Common.{map, take}
use Rattle.mask_algebra.specs.Layers.{AreMade}
use Rattle.mask_algebra.proofs.evaluation.masks_of.Given as goal

abbrev pub invariant-loop-line : goal.invariant-loop-line
invariant-loop-line g l = AreMade l.canvas l.fn.canvas (map g.L.MaskLine.formula (take l.line-index l.lines)) l.masks.items
