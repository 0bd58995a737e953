use Rattle.std.proofs.Common.{◌≡◌, take}
use Rattle.plane_geom.specs.Cells.{count_cells}
use Rattle.mask_region.specs.Strips.{is_in}
use Rattle.mask_region.proofs.sizes.area_of.Given as goal

abbrev pub invariant-loop-strip : goal.invariant-loop-strip
invariant-loop-strip l = l.total ≡ count_cells (is_in (take l.strip-index l.strips))
