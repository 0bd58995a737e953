use Rattle.mask_region.proofs.Rows.{common_more}
use Rattle.mask_region.proofs.ends.common_ends.Goals as goal

pub loop-k-preserved : goal.loop-k-preserved
loop-k-preserved c = common_more c.args.a.now c.args.b.now c.loop-k.k c.loop-k.invariant (c.is_same_end.ensures c.loop-k-test.true)
