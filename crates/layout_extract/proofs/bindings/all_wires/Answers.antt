use Rattle.std.proofs.Common.{refl}
use Rattle.layout_extract.proofs.WireLists.{wires_more}
use Rattle.layout_extract.proofs.bindings.all_wires.Goals as goal

pub loop-k-preserved : goal.loop-k-preserved
loop-k-preserved c = wires_more c.loop-k.all.items c.push.new.self.items _ c.loop-k.k c.loop-k.invariant refl c.in_ok-push.ensures.items
