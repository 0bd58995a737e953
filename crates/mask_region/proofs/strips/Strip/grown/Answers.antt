use Rattle.std.proofs.Common.{arith}
use Rattle.std.proofs.lemmas.Int.{ints}
use Rattle.mask_region.proofs.Growing.{grown_cells}
use Rattle.mask_region.proofs.strips.Strip.grown.Goals as goal

pub returns-clause-cells : goal.returns-clause-cells
returns-clause-cells c x y =
    grown_cells c.args.side c.args.self.now _ x y c.requires.some c.requires.strip (omega (arith, ints)) (omega (arith, ints)) (omega (arith, ints)) (omega (arith, ints))
