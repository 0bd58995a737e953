use Rattle.clause_watches.proofs.Kept.{back_kept}
use Rattle.clause_watches.proofs.laws.back_keeps.Goals as goal

pub returns : goal.returns
returns c = λ s w level t k. back_kept s w level t k
