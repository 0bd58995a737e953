use Rattle.std.proofs.lemmas.Bool.{eq-eqb, ne_eqb}
use Rattle.layer_map.proofs.LineLemmas.{cr_dropped, cr_absent}
use Rattle.layer_map.proofs.words.without_return.Goals as goal

pub returns-then-last-eq13 : goal.returns-then-last-eq13
returns-then-last-eq13 c = cr_dropped _ _ _ c.in-Some.ensures.cases.0 (eq-eqb _ _ c.if-last-eq13.true)

pub returns-else-last-eq13 : goal.returns-else-last-eq13
returns-else-last-eq13 c = cr_absent _ _ _ c.in-Some.ensures.cases.0 (ne_eqb _ _ c.if-last-eq13.false)
