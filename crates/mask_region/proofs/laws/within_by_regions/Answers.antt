use Rattle.mask_region.proofs.Within.{within-regions}
use Rattle.mask_region.proofs.laws.within_by_regions.Goals as goal

pub returns : goal.returns
returns c = within-regions
