use Rattle.std.specs.Int.{w128}
use Rattle.std.proofs.Common.{rules, refl, w64, FitsSigned}
use Rattle.std.proofs.lemmas.Int.{to_z-of_z}
use Rattle.cif_reader.proofs.measure.Scale.scaled_rect.Goals as goal

pub returns-clause-value : goal.returns-clause-value
returns-clause-value c =
    let fx0 : FitsSigned w128 c.args.corners.x0 = search rules in
    let fy0 : FitsSigned w128 c.args.corners.y0 = search rules in
    let fx1 : FitsSigned w128 c.args.corners.x1 = search rules in
    let fy1 : FitsSigned w128 c.args.corners.y1 = search rules in
    let x0 = simp to_z-of_z at c.scaled.ensures.value in
    let y0 = simp to_z-of_z at c.scaled-2.ensures.value in
    let x1 = simp to_z-of_z at c.scaled-3.ensures.value in
    let y1 = simp to_z-of_z at c.scaled-4.ensures.value in
    let rx0 : FitsSigned w64 c.scaled.result = search rules in
    let ry0 : FitsSigned w64 c.scaled-2.result = search rules in
    let rx1 : FitsSigned w64 c.scaled-3.result = search rules in
    let ry1 : FitsSigned w64 c.scaled-4.result = search rules in
    simp to_z-of_z (rw (x0, y0, x1, y1) refl)
