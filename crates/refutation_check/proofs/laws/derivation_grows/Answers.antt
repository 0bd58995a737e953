use Rattle.refutation_check.proofs.Derivations.{follow_more}
use Rattle.refutation_check.proofs.laws.derivation_grows.Goals as goal

pub returns : goal.returns
returns c = follow_more
