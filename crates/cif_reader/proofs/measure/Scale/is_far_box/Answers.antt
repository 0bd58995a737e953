use Rattle.std.specs.Int.{w128}
use Rattle.std.proofs.Common.{rules, FitsSigned}
use Rattle.std.proofs.lemmas.Int.{to_z-of_z}
use Rattle.cif_reader.specs.Measure.{is_far}
use Rattle.cif_reader.proofs.Bools.{else_of_four}
use Rattle.cif_reader.proofs.measure.Scale.is_far_box.Goals as goal

pub returns-else-is_either_far : goal.returns-else-is_either_far
returns-else-is_either_far c =
    let x0 : FitsSigned w128 c.args.corners.x0 = search rules in
    let y0 : FitsSigned w128 c.args.corners.y0 = search rules in
    let x1 : FitsSigned w128 c.args.corners.x1 = search rules in
    let y1 : FitsSigned w128 c.args.corners.y1 = search rules in
    let low = simp to_z-of_z at c.is_either_far.ensures in
    let high = simp to_z-of_z at c.is_either_far-else-is_either_far.ensures in
    else_of_four (is_far c.args.self c.args.corners.x0) (is_far c.args.self c.args.corners.y0) (is_far c.args.self c.args.corners.x1) (is_far c.args.self c.args.corners.y1) _ _ c.if-is_either_far.false low high
