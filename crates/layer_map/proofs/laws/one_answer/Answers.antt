use Rattle.layer_map.proofs.Walk.{one_map, one_fault, not_both}
use Rattle.layer_map.proofs.laws.one_answer.Goals as goal

pub returns-clause-map : goal.returns-clause-map
returns-clause-map c = one_map

pub returns-clause-fault : goal.returns-clause-fault
returns-clause-fault c = one_fault

pub returns-clause-not_both : goal.returns-clause-not_both
returns-clause-not_both c = not_both
