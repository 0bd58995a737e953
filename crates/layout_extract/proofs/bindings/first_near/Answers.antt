use Rattle.std.proofs.Common.{◌∙◌, rules}
use Rattle.std.proofs.lemmas.Iterator.{YieldsList-from_slice}
use Rattle.std.proofs.lemmas.Iterator.Search.{find_from_yields_List}
use Rattle.layer_map.specs.declared.map.WireId.{WireId}
use Rattle.layout_extract.specs.Labels.{is_near}
use Rattle.layout_extract.proofs.bindings.first_near.Goals as goal

pub returns : goal.returns
returns c = c.copied.ensures ∙ find_from_yields_List (λ (w : WireId). is_near c.args.traced.now c.args.at.now w.0) _ _ c.find.result c.find.ensures.ran (YieldsList-from_slice c.args.wires.now cc) (λ x b q k. search rules)
