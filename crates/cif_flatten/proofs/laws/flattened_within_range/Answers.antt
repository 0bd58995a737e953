use Rattle.cif_flatten.proofs.Flattened.{flattened_within}
use Rattle.cif_flatten.proofs.laws.flattened_within_range.Goals as goal

pub returns : goal.returns
returns c = flattened_within
