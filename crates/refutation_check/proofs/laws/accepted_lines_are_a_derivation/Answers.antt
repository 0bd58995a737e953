use Rattle.refutation_check.proofs.Derivations.{accepted, kept_after}
use Rattle.refutation_check.proofs.laws.accepted_lines_are_a_derivation.Goals as goal

pub returns-clause-derivation : goal.returns-clause-derivation
returns-clause-derivation c = accepted

pub returns-clause-kept : goal.returns-clause-kept
returns-clause-kept c = kept_after
