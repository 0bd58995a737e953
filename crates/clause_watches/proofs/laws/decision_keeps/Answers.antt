use Rattle.clause_watches.proofs.Kept.{decision_kept}
use Rattle.clause_watches.proofs.laws.decision_keeps.Goals as goal

pub returns : goal.returns
returns c = λ s w lit t k all. decision_kept s w lit t k all
