use Rattle.layout_extract.proofs.Existing.{some_layout_masks}
use Rattle.layout_extract.proofs.laws.some_layout_masks.Goals as goal

pub returns : goal.returns
returns c = some_layout_masks
