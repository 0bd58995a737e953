use Rattle.std.proofs.Common.{◌^◌}
use Rattle.std.specs.List.{All}
use Rattle.plane_geom.specs.Bounds.{IsRectWithin}
use Rattle.layout_tests.proofs.mask_region_tests.rects.Given as goal

abbrev pub invariant-loop-four : goal.invariant-loop-four
invariant-loop-four l = All (IsRectWithin (2 ^ 24)) l.rects.items
