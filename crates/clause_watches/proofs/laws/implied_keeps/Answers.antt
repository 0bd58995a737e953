use Rattle.clause_watches.proofs.Kept.{implied_kept}
use Rattle.clause_watches.proofs.laws.implied_keeps.Goals as goal

pub returns : goal.returns
returns c = λ s w lit number t k. implied_kept s w lit number t k
