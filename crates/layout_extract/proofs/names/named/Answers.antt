use Rattle.std.specs.Option.{option_copied}
use Rattle.layout_extract.proofs.LeastNames.{named_more}
use Rattle.layout_extract.proofs.names.named.Goals as goal

pub loop-number-preserved : goal.loop-number-preserved
loop-number-preserved c = rw c.in_ok-push.ensures.items
    (named_more option_copied c.args.tags.now c.args.count c.in_ok-least.least.items c.deref-first-items.result.now _ c.deref-first-items.ensures.value c.in_ok-least.ensures.each c.in_ok-least.ensures.least c.loop-number.names.items c.loop-number.number c.first-item.result c.in_ok-net_name.field-0 c.loop-number.invariant c.loop-number-test.true c.first-item.is c.in_ok-net_name.ensures)
