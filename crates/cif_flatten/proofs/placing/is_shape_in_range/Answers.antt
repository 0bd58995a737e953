use Rattle.std.proofs.Common.{arith, refl, ap, ◌∙◌, sym}
use Rattle.std.proofs.lemmas.Int.{ints}
use Rattle.plane_geom.specs.Covering.{figure_of, polygon, wire}
use Rattle.cif_flatten.proofs.Ranges.{block_in, polygon_in, wire_in, thick_of}
use Rattle.cif_flatten.proofs.placing.is_shape_in_range.Goals as goal

pub returns-in-Block : goal.returns-in-Block
returns-in-Block c = block_in c.args.shape.now c.args.place c.in-Block.rect c.in-Block.is c.is_rect_in_range.ensures

pub returns-in-Polygon : goal.returns-in-Polygon
returns-in-Polygon c = polygon_in c.args.shape.now c.args.place _ c.deref.result.now (ap figure_of c.in-Polygon.is ∙ ap polygon (sym c.deref.ensures.value)) refl c.is_path_in_range.ensures

pub returns-in-Wire : goal.returns-in-Wire
returns-in-Wire c =
    let is = ap figure_of c.in-Wire.is ∙ ap (wire c.in-Wire.half) (sym c.deref-in-Wire.ensures.value) in
    wire_in c.args.shape.now c.args.place c.in-Wire.half _ c.deref-in-Wire.result.now is (thick_of _ _ _ is c.requires.drawn) (omega (arith, ints)) c.is_path_in_range-in-Wire.ensures
