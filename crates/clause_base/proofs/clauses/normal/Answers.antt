use Rattle.std.proofs.Common.{subst, sym}
use Rattle.clause_base.specs.Novelty.{IsApart}
use Rattle.clause_base.proofs.Rising.{apart_same, same_turned, told, not_told}
use Rattle.clause_base.proofs.clauses.normal.Goals as goal

pub returns-then-is_apart-clause-apart : goal.returns-then-is_apart-clause-apart
returns-then-is_apart-clause-apart c =
    let sorted = subst IsApart c.as_slice.ensures (told c.is_apart.ensures c.if-is_apart.true) in
    apart_same c.in_ok-sorted.sorted c.args.clause.now (same_turned c.args.clause.now c.in_ok-sorted.sorted c.in_ok-sorted.ensures.same) sorted

pub returns-else-is_apart-clause-none : goal.returns-else-is_apart-clause-none
returns-else-is_apart-clause-none c = λ apart.
    not_told c.is_apart.ensures c.if-is_apart.false (subst IsApart (sym c.as_slice.ensures) (apart_same c.args.clause.now c.in_ok-sorted.sorted c.in_ok-sorted.ensures.same apart))

pub returns-then-is_apart-clause-sorted_apart : goal.returns-then-is_apart-clause-sorted_apart
returns-then-is_apart-clause-sorted_apart c = subst IsApart c.as_slice.ensures (told c.is_apart.ensures c.if-is_apart.true)
