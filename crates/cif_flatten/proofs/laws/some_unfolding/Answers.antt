use Rattle.cif_flatten.proofs.Existing.{some_unfolding}
use Rattle.cif_flatten.proofs.Flattened.{some_flattening}
use Rattle.cif_flatten.proofs.laws.some_unfolding.Goals as goal

pub returns-clause-unfolding : goal.returns-clause-unfolding
returns-clause-unfolding c = some_unfolding

pub returns-clause-flattening : goal.returns-clause-flattening
returns-clause-flattening c = some_flattening
