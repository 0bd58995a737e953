use Rattle.shape_cut.proofs.Hulls.{reach_near}
use Rattle.shape_cut.proofs.laws.one_reach.Goals as goal

pub returns : goal.returns
returns c = reach_near
