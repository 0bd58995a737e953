use Rattle.std.proofs.Common.{ap, ◌∙◌, sym}
use Rattle.plane_geom.specs.Covering.{figure_of, polygon, wire}
use Rattle.cif_flatten.proofs.Ranges.{block_ends, polygon_points, wire_points_of}
use Rattle.cif_flatten.proofs.placing.placed_shape.Goals as goal

pub placed_rect-requires-clause-low : goal.placed_rect-requires-clause-low
placed_rect-requires-clause-low c = (block_ends c.args.shape.now c.args.place c.in-Block.rect c.in-Block.is c.requires.inside).first

pub placed_rect-requires-clause-high : goal.placed_rect-requires-clause-high
placed_rect-requires-clause-high c = (block_ends c.args.shape.now c.args.place c.in-Block.rect c.in-Block.is c.requires.inside).second

pub placed_path-requires-clause-inside : goal.placed_path-requires-clause-inside
placed_path-requires-clause-inside c = polygon_points (figure_of c.args.shape.now) c.args.place c.deref.result.now (ap figure_of c.in-Polygon.is ∙ ap polygon (sym c.deref.ensures.value)) c.requires.inside

pub placed_path-requires-in-Wire-clause-inside : goal.placed_path-requires-in-Wire-clause-inside
placed_path-requires-in-Wire-clause-inside c =
    wire_points_of (figure_of c.args.shape.now) c.args.place c.in-Wire.half c.deref-in-Wire.result.now (ap figure_of c.in-Wire.is ∙ ap (wire c.in-Wire.half) (sym c.deref-in-Wire.ensures.value)) c.requires.drawn c.requires.inside
