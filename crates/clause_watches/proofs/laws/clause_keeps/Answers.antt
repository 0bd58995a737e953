use Rattle.clause_watches.proofs.Kept.{clause_kept}
use Rattle.clause_watches.proofs.laws.clause_keeps.Goals as goal

pub returns : goal.returns
returns c = λ s w clause pair k kept. clause_kept s w clause pair k kept
