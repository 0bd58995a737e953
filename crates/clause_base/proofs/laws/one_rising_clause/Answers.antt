use Rattle.clause_base.proofs.OneRising.{one_rising}
use Rattle.clause_base.proofs.laws.one_rising_clause.Goals as goal

pub returns : goal.returns
returns c = one_rising
