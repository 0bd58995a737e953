use Rattle.std.specs.Ordering.{int_eq}
use Rattle.std.proofs.lemmas.List.Filters.{dedup_is}
use Rattle.clause_base.proofs.Rising.{rising_from, same_from}
use Rattle.clause_base.proofs.clauses.distinct.Goals as goal

pub returns-clause-same : goal.returns-clause-same
returns-clause-same c = same_from _ _ _ _ c.in_ok-lits.ensures.items c.sort_unstable.ensures.permutation (dedup_is int_eq _ _ c.dedup.ensures.filtered)

pub returns-clause-rising : goal.returns-clause-rising
returns-clause-rising c = rising_from _ _ c.sort_unstable.ensures.sorted (dedup_is int_eq _ _ c.dedup.ensures.filtered)
