use Rattle.refutation_check.proofs.Faults.{one_refusal}
use Rattle.refutation_check.proofs.laws.one_fault.Goals as goal

pub returns : goal.returns
returns c = λ earlier fails hints a b some other first second. one_refusal earlier fails hints a b some other first second
