use Rattle.std.proofs.Common.{rules, arith, w32, FitsSigned}
use Rattle.std.proofs.lemmas.Int.{ints, to_z-of_z}
use Rattle.mask_region.proofs.Banding.{strip_at, edge_at_before, edge_at_inside}
use Rattle.mask_region.proofs.bands.next_edge.Goals as goal

pub returns-then-y-strip-clause-some : goal.returns-then-y-strip-clause-some
returns-then-y-strip-clause-some c =
    let f : FitsSigned w32 (strip_at c.args.strips.now c.args.i).y0 = search rules in
    simp to_z-of_z (edge_at_before c.args.strips.now c.args.i c.args.y (omega arith) c.requires.banded (omega (arith, ints)))

pub returns-else-y-strip-clause-some : goal.returns-else-y-strip-clause-some
returns-else-y-strip-clause-some c =
    let f : FitsSigned w32 (strip_at c.args.strips.now c.args.i).y1 = search rules in
    simp to_z-of_z (edge_at_inside c.args.strips.now c.args.i c.args.y (omega arith) c.requires.banded c.requires.ahead (omega (arith, ints)))
