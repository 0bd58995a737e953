use Rattle.std.proofs.Common.{refl, ◌∙◌}
use Rattle.layer_map.proofs.AddingLemmas.{lacking_wire, found_wire, wire_seen_so}
use Rattle.layer_map.proofs.judge.wire_of.Goals as goal

pub returns-in_err-place : goal.returns-in_err-place
returns-in_err-place c = wire_seen_so c.args.name.now c.args.wires.now _ _ refl (c.from_residual.ensures ∙ lacking_wire c.args.name.now c.args.wires.now c.in_err-place.ensures)

pub returns : goal.returns
returns c = wire_seen_so c.args.name.now c.args.wires.now _ _ refl (found_wire c.args.name.now c.args.wires.now c.in_ok-place.place c.in_ok-place.ensures)
