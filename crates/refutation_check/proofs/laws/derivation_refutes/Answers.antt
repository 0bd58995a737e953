use Rattle.refutation_check.proofs.Soundness.{refutes}
use Rattle.refutation_check.proofs.laws.derivation_refutes.Goals as goal

pub returns : goal.returns
returns c = λ clauses lines hints holds derived has choice solved. refutes holds choice clauses lines hints derived has solved
