use Rattle.layer_map.specs.Truth.{formula_of}
use Rattle.mask_algebra.proofs.Evaluating.{mask_near}
use Rattle.mask_algebra.proofs.canvas.Canvas.mask.Goals as goal

pub returns-clause-near : goal.returns-clause-near
returns-clause-near c = mask_near c.args.self.now (formula_of c.args.expr.now) c.in_ok-region.region c.strips-strips.ensures.banded c.in_ok-region.ensures.value
