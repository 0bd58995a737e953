use Rattle.std.proofs.Common.{[], ◌∙◌, arith, refl}
use Rattle.net_trace.specs.Touching.{Nets, traced_nets}
use Rattle.net_trace.specs.Wirings.{IsTraced}
use Rattle.net_trace.proofs.Making.{cuts_moved, cuts_made, nets_made, more_made, few_made}
use Rattle.net_trace.proofs.tracing.trace.Goals as goal

pub returns-clause-traced : goal.returns-clause-traced
returns-clause-traced c = c.in_ok-new.ensures ∙ nets_made c.args.map.now c.args.masks.now c.in_ok-wiring.wiring c.in_ok-cuts.cuts.items c.new-2.result.items
    (c.in_ok-wiring.ensures ∙ c.in_ok-copies.ensures ∙ c.wires.ensures.same)
    (cuts_made c.args.map.now c.args.masks.now c.in_ok-cuts.cuts.items c.cuts.result.now c.cuts-2.result.now c.cuts.ensures.same c.cuts-2.ensures.same c.in_ok-cuts.ensures) c.new-2.ensures.items

pub returns-clause-few : goal.returns-clause-few
returns-clause-few c =
    let nets : Nets = record { wires = c.in_ok-wiring.wiring; cuts = c.in_ok-cuts.cuts.items; joins = c.new-2.result.items } in
    few_made nets _ c.in_ok-label.field-0.label.items c.in_ok-label.field-0.roots.items c.in_ok-new.ensures c.in_ok-label.ensures.banded
    (cuts_moved c.in_ok-wiring.wiring c.as_slice.result.now c.in_ok-cuts.cuts.items c.new-2.result.items c.in_ok-label.field-0.label.items c.in_ok-label.field-0.roots.items c.as_slice.ensures.value c.new-2.ensures.items c.in_ok-label.ensures.traced)
    (omega (arith, c.if-len-gt-MOST_NETS.false, c.len.ensures, c.in_ok-label.field-0.roots.ok.0))

pub returns-then-len-gt-MOST_NETS-clause-many : goal.returns-then-len-gt-MOST_NETS-clause-many
returns-then-len-gt-MOST_NETS-clause-many c e =
    let nets : Nets = record { wires = c.in_ok-wiring.wiring; cuts = c.in_ok-cuts.cuts.items; joins = [] } in
    let made : IsTraced nets c.in_ok-label.field-0.label.items c.in_ok-label.field-0.roots.items =
    cuts_moved c.in_ok-wiring.wiring c.as_slice.result.now c.in_ok-cuts.cuts.items [] c.in_ok-label.field-0.label.items c.in_ok-label.field-0.roots.items c.as_slice.ensures.value refl c.in_ok-label.ensures.traced in
    more_made nets (traced_nets c.args.map.now c.args.masks.now) c.in_ok-label.field-0.label.items c.in_ok-label.field-0.roots.items
    (nets_made c.args.map.now c.args.masks.now c.in_ok-wiring.wiring c.in_ok-cuts.cuts.items [] (c.in_ok-wiring.ensures ∙ c.in_ok-copies.ensures ∙ c.wires.ensures.same)
    (cuts_made c.args.map.now c.args.masks.now c.in_ok-cuts.cuts.items c.cuts.result.now c.cuts-2.result.now c.cuts.ensures.same c.cuts-2.ensures.same c.in_ok-cuts.ensures) refl)
    c.in_ok-label.ensures.banded made (omega (arith, c.if-len-gt-MOST_NETS.true, c.len.ensures, c.in_ok-label.field-0.roots.ok.0))

pub new-requires-3-clause-traced : goal.new-requires-3-clause-traced
new-requires-3-clause-traced c =
    cuts_moved c.in_ok-wiring.wiring c.as_slice.result.now c.in_ok-cuts.cuts.items c.new-2.result.items c.in_ok-label.field-0.label.items c.in_ok-label.field-0.roots.items c.as_slice.ensures.value c.new-2.ensures.items c.in_ok-label.ensures.traced
