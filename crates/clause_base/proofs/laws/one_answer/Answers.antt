use Rattle.clause_base.proofs.FaultLemmas.{one_formula_of, one_fault, not_both}
use Rattle.clause_base.proofs.laws.one_answer.Goals as goal

pub returns-clause-formula : goal.returns-clause-formula
returns-clause-formula c = one_formula_of

pub returns-clause-fault : goal.returns-clause-fault
returns-clause-fault c = one_fault

pub returns-clause-not_both : goal.returns-clause-not_both
returns-clause-not_both c = not_both
