use Rattle.std.proofs.Common.{take}
use Rattle.clause_base.specs.Literals.{is_in}
use Rattle.clause_base.specs.Teaching.{AllButNegated}
use Rattle.clause_watches.proofs.visit.find.Given as goal

abbrev pub invariant-loop-lit : goal.invariant-loop-lit
invariant-loop-lit l = AllButNegated (is_in l.trail.lits) (take l.lit-index l.clause) l.other
