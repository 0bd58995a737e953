use Rattle.std.proofs.Common.{length}
use Rattle.mask_region.proofs.rects.+strips_of.Given as goal

abbrev pub decreases-strips_of : goal.decreases-strips_of
decreases-strips_of l = length l.rects.now
