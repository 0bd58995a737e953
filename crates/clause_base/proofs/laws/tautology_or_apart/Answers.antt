use Rattle.clause_base.proofs.Tautologies.{not_both, one}
use Rattle.clause_base.proofs.laws.tautology_or_apart.Goals as goal

pub returns-clause-not_both : goal.returns-clause-not_both
returns-clause-not_both c = not_both

pub returns-clause-one : goal.returns-clause-one
returns-clause-one c = one
