use Rattle.std.proofs.Common.{rules, w64, FitsSigned}
use Rattle.std.proofs.lemmas.Int.{to_z-of_z}
use Rattle.shape_cut.proofs.Hulls.{wire_near, wire_thin, polygon_near}
use Rattle.shape_cut.proofs.cutting.cut.Goals as goal

pub cut_polygon-requires-clause-near : goal.cut_polygon-requires-clause-near
cut_polygon-requires-clause-near c =
    let formed = rw c.in-Polygon.is at c.requires.formed in
    let within = rw c.in-Polygon.is at c.requires.within in
    rw c.deref.ensures.value (polygon_near c.in-Polygon.points.items formed.some within)

pub cut_wire-requires-clause-thin : goal.cut_wire-requires-clause-thin
cut_wire-requires-clause-thin c =
    let f : FitsSigned w64 c.in-Wire.half = search rules in
    let formed = rw c.in-Wire.is at c.requires.formed in
    let within = rw c.in-Wire.is at c.requires.within in
    simp to_z-of_z (wire_thin c.in-Wire.half c.in-Wire.path.items formed.some within)

pub cut_wire-requires-clause-near : goal.cut_wire-requires-clause-near
cut_wire-requires-clause-near c =
    let formed = rw c.in-Wire.is at c.requires.formed in
    let within = rw c.in-Wire.is at c.requires.within in
    rw c.deref-in-Wire.ensures.value (wire_near c.in-Wire.half c.in-Wire.path.items formed.some formed.thick within)
