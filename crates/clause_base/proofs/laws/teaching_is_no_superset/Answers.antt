use Rattle.clause_base.proofs.Teachings.{no_superset}
use Rattle.clause_base.proofs.laws.teaching_is_no_superset.Goals as goal

pub returns : goal.returns
returns c = no_superset
