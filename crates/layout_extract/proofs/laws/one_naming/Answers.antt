use Rattle.layout_extract.proofs.SameLayouts.{one_naming, one_reason, never_both_named}
use Rattle.layout_extract.proofs.laws.one_naming.Goals as goal

pub returns-clause-naming : goal.returns-clause-naming
returns-clause-naming c = one_naming

pub returns-clause-reason : goal.returns-clause-reason
returns-clause-reason c = one_reason

pub returns-clause-never_both : goal.returns-clause-never_both
returns-clause-never_both c = never_both_named
