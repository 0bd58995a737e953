use Rattle.proof_sinks.proofs.Derivations.{derivation}
use Rattle.proof_sinks.proofs.laws.checked_lines_are_a_derivation.Goals as goal

pub returns : goal.returns
returns c = derivation
