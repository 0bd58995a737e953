use Rattle.std.proofs.Common.{sym}
use Rattle.layer_map.proofs.TreeLemmas.{build_none, build_some}
use Rattle.layer_map.proofs.building.build.Goals as goal

pub returns-in-None : goal.returns-in-None
returns-in-None c = build_none _ c.requires.parsed (sym c.if-not-has_few_layers.ensures) (λ s t h e n. rw c.in-None.is at (c.in_ok-sum.ensures.tree s t h e n))

pub returns-in-Some : goal.returns-in-Some
returns-in-Some c = build_some _ _ _ c.requires.parsed (sym c.if-not-has_few_layers.ensures) (λ s t h e n. rw c.in-Some.is at (c.in_ok-sum.ensures.tree s t h e n))
