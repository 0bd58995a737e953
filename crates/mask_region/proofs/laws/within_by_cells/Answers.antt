use Rattle.mask_region.proofs.Within.{within-cells}
use Rattle.mask_region.proofs.laws.within_by_cells.Goals as goal

pub returns : goal.returns
returns c = within-cells
