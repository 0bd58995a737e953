use Rattle.std.proofs.Common.{sym, ap, ◌∙◌}
use Rattle.std.specs.Prelude.{is_some}
use Rattle.layer_map.proofs.AddingLemmas.{names_any, has_place, has_name}
use Rattle.layer_map.proofs.judge.is_wire.Goals as goal

pub returns : goal.returns
returns c = c.is_some.ensures ∙ ap is_some c.place_of.ensures ∙ has_place (has_name c.args.name.now) c.args.wires.now ∙ sym (names_any c.args.name.now c.args.wires.now)
