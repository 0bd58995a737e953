use Rattle.std.proofs.Common.{sym, ◌∙◌}
use Rattle.layer_map.proofs.AddingLemmas.{layers_any}
use Rattle.layer_map.proofs.judge.is_layer.Goals as goal

pub returns : goal.returns
returns c = c.any_label.ensures ∙ sym (layers_any c.args.layer c.args.labels.now)
