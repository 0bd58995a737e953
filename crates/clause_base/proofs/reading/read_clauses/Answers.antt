use Rattle.std.proofs.Common.{◌∙◌, arith}
use Rattle.clause_base.proofs.ReadingLemmas.{literal_step, clause_step}
use Rattle.clause_base.proofs.reading.read_clauses.Goals as goal

pub loop-alloc-preserved-in-Continue-branch-3 : goal.loop-alloc-preserved-in-Continue-branch-3
loop-alloc-preserved-in-Continue-branch-3 c = (
  literal_step _ c.in-Some.lit c.loop-alloc.invariant.0 (omega (arith, c.loop-alloc-test.true, c.len.ensures, c.loop-alloc.clauses.ok.0)) c.in_ok-lit.ensures.taken c.in_ok-lit.ensures.literal c.in-Some.is c.in_ok-add_literal-in-Some.ensures,
  c.in_ok-lit.ensures.end ∙ c.loop-alloc.invariant.1,
)

pub loop-alloc-preserved : goal.loop-alloc-preserved
loop-alloc-preserved c = (
  clause_step _ c.loop-alloc.invariant.0 (omega (arith, c.loop-alloc-test.true, c.len.ensures, c.loop-alloc.clauses.ok.0)) c.in_ok-lit.ensures.taken c.in-None.is c.in_ok-end_clause-in-None.ensures.clauses c.in_ok-end_clause-in-None.ensures.lits,
  c.in_ok-lit.ensures.end ∙ c.loop-alloc.invariant.1,
)
