use Rattle.defect_sweep.proofs.OneCounting.{counts_by_regions}
use Rattle.defect_sweep.proofs.laws.counts_by_regions.Goals as goal

pub returns : goal.returns
returns c nets sides regions count are is = counts_by_regions nets sides regions count are is
