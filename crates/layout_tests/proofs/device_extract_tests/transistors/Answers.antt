use Rattle.std.proofs.Common.{ap, sym, ◌∙◌, length}
use Rattle.mask_region.specs.Strips.{MaskLists}
use Rattle.net_trace.specs.Touching.{Nets}
use Rattle.layout_extract.proofs.LayoutFacts.{masks_size}
use Rattle.layout_tests.proofs.device_extract_tests.transistors.Goals as goal

pub extract-requires-clause-wires : goal.extract-requires-clause-wires
extract-requires-clause-wires c =
    let named = c.in_ok-named.ensures.named in
    ap (λ (m : MaskLists). length m.wires) c.masks.ensures ∙ masks_size named.lists.draws (λ w. w.formula) c.in_ok-map.map.wires c.in_ok-named.named.masks.wires named.is.masks.wires

pub extract-requires-clause-channels : goal.extract-requires-clause-channels
extract-requires-clause-channels c =
    let named = c.in_ok-named.ensures.named in
    ap (λ (m : MaskLists). length m.channels) c.masks.ensures ∙ masks_size named.lists.draws (λ f. f.channel) c.in_ok-map.map.fets c.in_ok-named.named.masks.channels named.is.masks.channels

pub extract-requires-clause-traced : goal.extract-requires-clause-traced
extract-requires-clause-traced c =
    let named = c.in_ok-named.ensures.named in
    ap (λ (n : Nets). n.wires) c.traced.ensures.same ∙ named.is.nets.wires ∙ sym (ap (λ (m : MaskLists). m.wires) c.masks.ensures)
