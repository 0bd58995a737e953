use Rattle.mask_region.proofs.Growing.{AreGrown}
use Rattle.mask_region.proofs.sizes.grown_rects.Given as goal

abbrev pub invariant-loop-strip : goal.invariant-loop-strip
invariant-loop-strip l = AreGrown l.side l.strips l.strip-index l.rects.items
