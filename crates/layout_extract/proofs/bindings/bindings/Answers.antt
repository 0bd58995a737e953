use Rattle.layout_extract.specs.Binding.{IsBinding}
use Rattle.layout_extract.proofs.Places.{zip_more, zip_whole}
use Rattle.layout_extract.proofs.bindings.bindings.Goals as goal

pub loop-mark-preserved : goal.loop-mark-preserved
loop-mark-preserved c = rw c.in_ok-push.ensures.items
    (zip_more (IsBinding c.args.traced.now c.args.map.now) c.args.marks.now c.loop-mark.found.items c.loop-mark.mark-index c.mark-item.result c.binding_of.result c.loop-mark-test.true c.mark-item.is c.loop-mark.invariant c.binding_of.ensures)

pub returns : goal.returns
returns c = zip_whole (IsBinding c.args.traced.now c.args.map.now) c.args.marks.now c.loop-mark.found.items c.loop-mark.mark-index c.loop-mark-test.false c.loop-mark.invariant
