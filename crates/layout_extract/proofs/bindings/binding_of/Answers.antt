use Rattle.std.proofs.Common.{◌∙◌, ap}
use Rattle.std.specs.Option.{option_map}
use Rattle.layer_map.specs.declared.map.WireId.{WireId}
use Rattle.layout_extract.proofs.BoundNodes.{wire_is, has_wire, bound_one, bound_two, not_none, shallow_from}
use Rattle.layout_extract.proofs.bindings.binding_of.Goals as goal

pub returns-in_default : goal.returns-in_default
returns-in_default c = record {
  none = wire_is c.args.traced.now c.args.map.now c.args.mark.now c.tried_wires-wires.result.now c.first_near.result c.tried_wires-wires.ensures c.first_near.ensures ∙ ap (λ o. option_map (λ (w : WireId). w.0) o) c.in_default.is;
  shallow = shallow_from c.args.mark.now c.if-mark-ge2.false;
}

pub returns-in-Nothing : goal.returns-in-Nothing
returns-in-Nothing c =
    let is = wire_is c.args.traced.now c.args.map.now c.args.mark.now c.tried_wires-wires.result.now c.first_near.result c.tried_wires-wires.ensures c.first_near.ensures ∙ ap (λ o. option_map (λ (w : WireId). w.0) o) c.in-Some.is in
    not_none c.args.traced.now c.args.map.now c.args.mark.now c.in-Some.wire.0 is (shallow_from c.args.mark.now c.if-mark-ge2.false) c.in-Nothing.ensures

pub returns-in-One : goal.returns-in-One
returns-in-One c =
    let is = wire_is c.args.traced.now c.args.map.now c.args.mark.now c.tried_wires-wires.result.now c.first_near.result c.tried_wires-wires.ensures c.first_near.ensures ∙ ap (λ o. option_map (λ (w : WireId). w.0) o) c.in-Some.is in
    let shallow = shallow_from c.args.mark.now c.if-mark-ge2.false in
    let found = c.in-One.ensures in (
      has_wire c.args.traced.now c.args.map.now c.args.mark.now c.in-Some.wire.0 is shallow,
      bound_one c.args.traced.now c.args.map.now c.args.mark.now c.in-Some.wire.0 is shallow c.in-One.cell c.in-One.field-1.0 found.0 found.1,
    )

pub returns-in-Two : goal.returns-in-Two
returns-in-Two c =
    let is = wire_is c.args.traced.now c.args.map.now c.args.mark.now c.tried_wires-wires.result.now c.first_near.result c.tried_wires-wires.ensures c.first_near.ensures ∙ ap (λ o. option_map (λ (w : WireId). w.0) o) c.in-Some.is in
    let shallow = shallow_from c.args.mark.now c.if-mark-ge2.false in
    (has_wire c.args.traced.now c.args.map.now c.args.mark.now c.in-Some.wire.0 is shallow, bound_two c.args.traced.now c.args.map.now c.args.mark.now c.in-Some.wire.0 is shallow c.in-Two.ensures)
