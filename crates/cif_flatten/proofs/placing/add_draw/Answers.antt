use Rattle.std.proofs.Common.{◌^◌}
use Rattle.plane_geom.specs.Covering.{figure_of, IsFigureWithin}
use Rattle.plane_geom.specs.Placement.{steps_of}
use Rattle.cif_flatten.specs.declared.flat.Draw.{Draw}
use Rattle.cif_flatten.specs.Flat.{IsShapeWithin}
use Rattle.cif_flatten.specs.Unrolling.{placed_of}
use Rattle.cif_flatten.proofs.Ranges.{drawable, draw_within, pushed}
use Rattle.cif_flatten.proofs.Shapes.{shape_within, shape_roomy}
use Rattle.cif_flatten.proofs.placing.add_draw.Goals as goal

pub placed_shape-requires-clause-drawn : goal.placed_shape-requires-clause-drawn
placed_shape-requires-clause-drawn c = drawable _ _ _ c.in-Draw.is c.requires.placeable.kept

pub placed_shape-requires-clause-inside : goal.placed_shape-requires-clause-inside
placed_shape-requires-clause-inside c = draw_within (placed_of c.args.command.now) _ _ c.in-Draw.is c.requires.inside

pub returns-in_ok-push-clause-within : goal.returns-in_ok-push-clause-within
returns-in_ok-push-clause-within c = pushed (λ (d : Draw). IsShapeWithin (2 ^ 24) d.shape) _ _ _ c.in_ok-push.ensures.items
    (shape_within c.in_ok-shape.shape (steps_of c.args.command.now.place) (figure_of c.in-Draw.shape) c.in_ok-shape.ensures (drawable _ _ _ c.in-Draw.is c.requires.placeable.kept) (draw_within (placed_of c.args.command.now) _ _ c.in-Draw.is c.requires.inside))

pub returns-in_ok-push-clause-roomy : goal.returns-in_ok-push-clause-roomy
returns-in_ok-push-clause-roomy c = pushed (λ (d : Draw). IsFigureWithin (2 ^ 60) (figure_of d.shape)) _ _ _ c.in_ok-push.ensures.items
    (shape_roomy c.in_ok-shape.shape (steps_of c.args.command.now.place) (figure_of c.in-Draw.shape) c.in_ok-shape.ensures (drawable _ _ _ c.in-Draw.is c.requires.placeable.kept) (draw_within (placed_of c.args.command.now) _ _ c.in-Draw.is c.requires.inside))
