use Rattle.defect_sweep.proofs.Fitting.{counts_fit}
use Rattle.defect_sweep.proofs.laws.counts_fit.Goals as goal

pub returns : goal.returns
returns c sides nets wires regions are few within = counts_fit sides nets wires regions are few within
