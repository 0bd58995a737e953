use Rattle.std.specs.Int.{w128}
use Rattle.std.proofs.Common.{rules, FitsSigned}
use Rattle.std.proofs.lemmas.Int.{to_z-of_z}
use Rattle.cif_reader.specs.Measure.{is_whole}
use Rattle.cif_reader.proofs.Bools.{then_of_four}
use Rattle.cif_reader.proofs.measure.Scale.is_whole_box.Goals as goal

pub returns-then-are_both_whole : goal.returns-then-are_both_whole
returns-then-are_both_whole c =
    let x0 : FitsSigned w128 c.args.corners.x0 = search rules in
    let y0 : FitsSigned w128 c.args.corners.y0 = search rules in
    let x1 : FitsSigned w128 c.args.corners.x1 = search rules in
    let y1 : FitsSigned w128 c.args.corners.y1 = search rules in
    let low = simp to_z-of_z at c.are_both_whole.ensures in
    let high = simp to_z-of_z at c.are_both_whole-then-are_both_whole.ensures in
    then_of_four (is_whole c.args.self c.args.corners.x0) (is_whole c.args.self c.args.corners.y0) (is_whole c.args.self c.args.corners.x1) (is_whole c.args.self c.args.corners.y1) _ _ c.if-are_both_whole.true low high
