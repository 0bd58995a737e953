use Rattle.mask_region.proofs.Within.{within-rects}
use Rattle.mask_region.proofs.laws.within_by_rects.Goals as goal

pub returns : goal.returns
returns c = within-rects
