use Rattle.std.proofs.Common.{◌^◌}
use Rattle.std.proofs.lemmas.List.Elements.{All-push}
use Rattle.plane_geom.specs.Bounds.{IsRectWithin}
use Rattle.layout_tests.proofs.mask_region_tests.rects.Goals as goal

pub loop-four-preserved : goal.loop-four-preserved
loop-four-preserved c = rw c.in_ok-push.ensures.items (All-push (IsRectWithin (2 ^ 24)) c.loop-four.rects.items c.rect.result c.loop-four.invariant c.rect.ensures)
