use Rattle.std.proofs.Common.{◌∙◌}
use Rattle.layer_map.specs.Views.{wire_seen, cut_seen, fet_seen}
use Rattle.mask_algebra.proofs.Lines.{lines_all, masks_seen}
use Rattle.mask_algebra.proofs.evaluation.evaluate.Goals as goal

pub masks_of-requires : goal.masks_of-requires
masks_of-requires c = lines_all _ _ wire_seen (λ l h. h) c.wires.result.now c.args.map.now.wires c.wires.ensures.same c.wires.ensures.kept.wires

pub masks_of-requires-2 : goal.masks_of-requires-2
masks_of-requires-2 c = lines_all _ _ cut_seen (λ l h. h.bounded) c.cuts.result.now c.args.map.now.cuts c.cuts.ensures.same c.cuts.ensures.kept.cuts

pub masks_of-requires-3 : goal.masks_of-requires-3
masks_of-requires-3 c = lines_all _ _ fet_seen (λ l h. h.bounded) c.fets.result.now c.args.map.now.fets c.fets.ensures.same c.fets.ensures.kept.fets

pub returns-clause-wires : goal.returns-clause-wires
returns-clause-wires c =
    masks_seen c.args.flat.now.draws c.in_ok-canvas.canvas wire_seen (λ w. w.formula) c.wires.result.now c.args.map.now.wires c.new-2.result.wires c.in_ok-wires.wires.items
    c.in_ok-canvas.ensures c.wires.ensures.same c.new-2.ensures.has_wires c.in_ok-wires.ensures.masks

pub returns-clause-cuts : goal.returns-clause-cuts
returns-clause-cuts c =
    masks_seen c.args.flat.now.draws c.masks_of.new.canvas cut_seen (λ w. w.formula) c.cuts.result.now c.args.map.now.cuts c.new-2.result.cuts c.in_ok-cuts.cuts.items
    (c.in_ok-wires.ensures.same ∙ c.in_ok-canvas.ensures) c.cuts.ensures.same c.new-2.ensures.has_cuts c.in_ok-cuts.ensures.masks

pub returns-clause-channels : goal.returns-clause-channels
returns-clause-channels c =
    masks_seen c.args.flat.now.draws c.masks_of-2.new.canvas fet_seen (λ f. f.channel) c.fets.result.now c.args.map.now.fets c.new-2.result.channels c.in_ok-channels.channels.items
    (c.in_ok-cuts.ensures.same ∙ c.in_ok-wires.ensures.same ∙ c.in_ok-canvas.ensures) c.fets.ensures.same c.new-2.ensures.has_channels c.in_ok-channels.ensures.masks
