use Rattle.std.proofs.Common.{sym, subst}
use Rattle.device_extract.specs.Contacts.{AreEnds}
use Rattle.device_extract.proofs.EndLists.{ends_more}
use Rattle.device_extract.proofs.terminals.ends_of.Goals as goal

pub loop-fet-preserved : goal.loop-fet-preserved
loop-fet-preserved c = ends_more c.args.contacts.now c.args.count c.loop-fet.fet-index (0, record { 0 = 0 }) c.loop-fet.ends.items c.index.result.now c.with.result c.loop-fet-test.true (c.requires c.loop-fet.fet-index (0, record { 0 = 0 }) c.loop-fet-test.true) c.loop-fet.invariant
    (λ has h. c.with.ensures has (subst (AreEnds has) (sym c.index.ensures) h))
