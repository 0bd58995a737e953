use Rattle.std.proofs.Common.{◌^◌, rules}
use Rattle.plane_geom.specs.Bounds.{IsRectWithin}
use Rattle.plane_geom.specs.Covering.{figure_of}
use Rattle.shape_cut.proofs.Hulls.{reach_near}
use Rattle.layout_tests.proofs.shape_cut_tests.pieces.Goals as goal

pub cut-requires-clause-within : goal.cut-requires-clause-within
cut-requires-clause-within c r reach =
    let near : IsRectWithin (2 ^ 24) c.reach-reach.result = search rules in
    reach_near (2 ^ 24) (figure_of c.args.shape.now) c.reach-reach.result r c.reach-reach.ensures near reach
