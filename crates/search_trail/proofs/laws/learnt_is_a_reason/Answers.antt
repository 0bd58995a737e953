use Rattle.search_trail.proofs.Jumps.{reason, unset, unset_negated}
use Rattle.search_trail.proofs.laws.learnt_is_a_reason.Goals as goal

pub returns-clause-reason : goal.returns-clause-reason
returns-clause-reason c = λ s clause level a j. reason s clause level a j

pub returns-clause-unset : goal.returns-clause-unset
returns-clause-unset c = λ s clause level t l a. unset s clause level t l a

pub returns-clause-unset_negated : goal.returns-clause-unset_negated
returns-clause-unset_negated c = λ s clause level t a lt. unset_negated s clause level t a lt
