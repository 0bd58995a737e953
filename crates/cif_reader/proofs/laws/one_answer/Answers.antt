use Rattle.cif_reader.proofs.Answering.{one_refusal, never_both, one_file}
use Rattle.cif_reader.proofs.laws.one_answer.Goals as goal

pub returns : goal.returns
returns c = record { one_refusal = one_refusal; never_both = never_both; one_file = one_file }
