use Rattle.std.proofs.Common.{◌∙◌}
use Rattle.layer_map.specs.Views.{numbers_seen}
use Rattle.net_trace.proofs.CutLists.{cuts_more, cuts_all}
use Rattle.net_trace.proofs.cuts.cut_areas.Goals as goal

pub loop-k-preserved : goal.loop-k-preserved
loop-k-preserved c =
    cuts_more (λ l. numbers_seen l.wires.items) c.loop-k.cuts.items c.push.new.self.items c.args.regions.now c.args.lines.now c.loop-k.k c.in_ok-copy.field-0 _ c.index-lines-k.result _ c.in_ok-wires_of.field-0.items c.requires c.loop-k-test.true
    c.loop-k.invariant (c.in_ok-copy.ensures ∙ c.index-regions-k.is) c.index-lines-k.is c.in_ok-wires_of.ensures c.in_ok-push.ensures.items

pub returns : goal.returns
returns c = cuts_all (λ l. numbers_seen l.wires.items) c.loop-k.cuts.items c.args.regions.now c.args.lines.now c.loop-k.k c.requires c.loop-k-test.false c.loop-k.invariant
