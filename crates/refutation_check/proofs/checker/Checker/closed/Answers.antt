use Rattle.std.proofs.Common.{subst}
use Rattle.refutation_check.specs.Keeping.{given_clauses, AreUnsolvable}
use Rattle.refutation_check.proofs.Keeps.{unsolvable}
use Rattle.refutation_check.proofs.checker.Checker.closed.Goals as goal

pub returns-clause-refuted : goal.returns-clause-refuted
returns-clause-refuted c = λ is. subst (λ k. AreUnsolvable (given_clauses k)) c.self.view_is (unsolvable _ c.self.inside.store c.self.inside.given.items _ c.self.invariant is)
