use Rattle.device_extract.proofs.OneList.{one_list, one_gate}
use Rattle.device_extract.proofs.OneReason.{one_reason, never_both}
use Rattle.device_extract.proofs.laws.one_extraction.Goals as goal

pub returns-clause-list : goal.returns-clause-list
returns-clause-list c = λ plan masks nets p q each same first second. one_list plan masks nets each same first.gated p q first second

pub returns-clause-gate : goal.returns-clause-gate
returns-clause-gate c = λ plan masks nets t m n each same gated. one_gate plan masks nets each same gated t m n

pub returns-clause-reason : goal.returns-clause-reason
returns-clause-reason c = one_reason

pub returns-clause-never_both : goal.returns-clause-never_both
returns-clause-never_both c = never_both
