use Rattle.search_trail.specs.Trails.{front_size}
use Rattle.search_trail.proofs.Teaches.{front_consistent}
use Rattle.clause_watches.proofs.Kept.{closed}
use Rattle.clause_watches.proofs.laws.passed_level_is_closed.Goals as goal

pub returns-clause-closed : goal.returns-clause-closed
returns-clause-closed c = λ s w level t k low. closed s w level t k low

pub returns-clause-consistent : goal.returns-clause-consistent
returns-clause-consistent c = λ s level t. front_consistent s t (front_size s level)
