use Rattle.clause_base.proofs.Values.{consistent, one}
use Rattle.clause_base.proofs.laws.values_are_consistent.Goals as goal

pub returns-clause-consistent : goal.returns-clause-consistent
returns-clause-consistent c = consistent

pub returns-clause-one : goal.returns-clause-one
returns-clause-one c = one
