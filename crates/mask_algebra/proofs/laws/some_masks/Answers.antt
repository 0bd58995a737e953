use Rattle.mask_algebra.proofs.Existing.{some_masks}
use Rattle.mask_algebra.proofs.laws.some_masks.Goals as goal

pub returns : goal.returns
returns c = some_masks
