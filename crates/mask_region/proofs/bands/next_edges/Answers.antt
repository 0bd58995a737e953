use Rattle.std.proofs.Common.{rules, arith, w32, FitsSigned}
use Rattle.std.proofs.lemmas.Int.{ints, to_z-of_z}
use Rattle.mask_region.proofs.Banding.{edge_less}
use Rattle.mask_region.proofs.bands.next_edges.Goals as goal

pub returns-then-p-q-clause-in_b : goal.returns-then-p-q-clause-in_b
returns-then-p-q-clause-in_b c =
    let f : FitsSigned w32 c.in-Some.p = search rules in
    let fy : FitsSigned w32 c.args.y = c.ranges.y in
    simp to_z-of_z
    (edge_less _ c.args.y c.in-Some-next_edge.q c.in-Some.p (simp to_z-of_z at c.in-Some-next_edge.ensures.some) (omega (arith, ints, c.in-Some.ensures.some.later)) (omega (arith, ints)))

pub returns-else-p-q-clause-in_a : goal.returns-else-p-q-clause-in_a
returns-else-p-q-clause-in_a c =
    let f : FitsSigned w32 c.in-Some-next_edge.q = search rules in
    let fy : FitsSigned w32 c.args.y = c.ranges.y in
    simp to_z-of_z
    (edge_less _ c.args.y c.in-Some.p c.in-Some-next_edge.q (simp to_z-of_z at c.in-Some.ensures.some) (omega (arith, ints, c.in-Some-next_edge.ensures.some.later)) (omega (arith, ints)))
