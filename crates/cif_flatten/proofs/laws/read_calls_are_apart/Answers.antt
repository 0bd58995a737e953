use Rattle.cif_flatten.proofs.Positions.{calls_apart}
use Rattle.cif_flatten.proofs.laws.read_calls_are_apart.Goals as goal

pub returns : goal.returns
returns c = calls_apart
