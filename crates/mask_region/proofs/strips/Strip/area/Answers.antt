use Rattle.std.proofs.Common.{arith}
use Rattle.std.proofs.lemmas.Int.{ints}
use Rattle.mask_region.proofs.Areas.{area_one}
use Rattle.mask_region.proofs.strips.Strip.area.Goals as goal

pub returns : goal.returns
returns c = area_one c.args.self.now _ _ c.requires (omega (arith, ints)) (omega (arith, ints))
