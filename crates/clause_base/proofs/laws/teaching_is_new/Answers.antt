use Rattle.clause_base.proofs.Teachings.{is_new}
use Rattle.clause_base.proofs.laws.teaching_is_new.Goals as goal

pub returns : goal.returns
returns c = λ earlier clause some teaches. is_new earlier clause teaches some
