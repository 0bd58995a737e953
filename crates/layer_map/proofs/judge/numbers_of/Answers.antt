use Rattle.std.proofs.Common.{ap, ◌∙◌}
use Rattle.std.proofs.lemmas.List.{map-append}
use Rattle.layer_map.specs.Views.{numbers_seen}
use Rattle.layer_map.proofs.AddingLemmas.{numbered_more, numbered_not}
use Rattle.layer_map.proofs.judge.numbers_of.Goals as goal

pub loop-name-preserved : goal.loop-name-preserved
loop-name-preserved c = numbered_more _ _ _ _ _ _ _ _ c.loop-name.invariant c.in-Some.ensures.word c.in-Some-wire_of.ensures (ap numbers_seen c.in_ok-push.ensures.items ∙ map-append _ _ _)

pub returns-in_default-wire_of : goal.returns-in_default-wire_of
returns-in_default-wire_of c = numbered_not _ _ _ _ _ _ c.loop-name.invariant c.in-Some.ensures.word c.in_default-wire_of.ensures
