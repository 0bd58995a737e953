use Rattle.std.proofs.Common.{◌^◌}
use Rattle.std.proofs.lemmas.List.Elements.{All-append}
use Rattle.plane_geom.specs.Bounds.{IsRectWithin}
use Rattle.plane_geom.specs.Covering.{figure_of}
use Rattle.mask_algebra.proofs.Reaches.{cut_near}
use Rattle.mask_algebra.proofs.layers.add_cut.Goals as goal

pub returns-clause-within : goal.returns-clause-within
returns-clause-within c =
    let near = cut_near (figure_of c.args.shape.now) c.in_ok-cut.cut.items c.requires.shape.formed c.requires.shape.reach c.in_ok-cut.ensures.formed c.in_ok-cut.ensures.inside in
    rw (c.in_ok-extend_from_slice.ensures.items, c.as_slice.ensures.value) (All-append (IsRectWithin (2 ^ 24)) c.args.rects.now.items c.in_ok-cut.cut.items c.requires.within near)
