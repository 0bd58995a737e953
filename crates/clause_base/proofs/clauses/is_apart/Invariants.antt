use Rattle.std.proofs.Common.{ℕ, ◌<◌, ℤ, neg_ℤ, slice_index_or}
use Rattle.std.specs.List.{Contains}
use Rattle.clause_base.proofs.clauses.is_apart.Given as goal

abbrev pub invariant-loop-lit : goal.invariant-loop-lit
invariant-loop-lit l = (k : ℕ) (d : ℤ) → k < l.lit-index → Contains l.lits (neg_ℤ (slice_index_or l.lits k d)) → ⊥
