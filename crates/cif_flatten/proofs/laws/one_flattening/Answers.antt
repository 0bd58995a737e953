use Rattle.cif_flatten.proofs.Unfoldings.{one_of_file}
use Rattle.cif_flatten.proofs.OneAnswer.{one_layout, never_both, one_fault}
use Rattle.cif_flatten.proofs.SameFiles.{same_file, first_fault_same}
use Rattle.cif_flatten.proofs.laws.one_flattening.Goals as goal

pub returns-clause-one_unfolding : goal.returns-clause-one_unfolding
returns-clause-one_unfolding c = one_of_file

pub returns-clause-one_layout : goal.returns-clause-one_layout
returns-clause-one_layout c = one_layout

pub returns-clause-never_both : goal.returns-clause-never_both
returns-clause-never_both c = never_both

pub returns-clause-one_fault : goal.returns-clause-one_fault
returns-clause-one_fault c = one_fault

pub returns-clause-same_file : goal.returns-clause-same_file
returns-clause-same_file c = same_file

pub returns-clause-same_fault : goal.returns-clause-same_fault
returns-clause-same_fault c = first_fault_same
