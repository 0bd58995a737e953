use Rattle.refutation_check.proofs.Soundness.{following}
use Rattle.refutation_check.proofs.laws.following_is_true.Goals as goal

pub returns : goal.returns
returns c = λ earlier clause hints holds follows choice solved. following holds choice earlier clause hints follows solved
