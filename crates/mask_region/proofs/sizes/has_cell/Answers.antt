use Rattle.mask_region.proofs.Searching.{some_found}
use Rattle.mask_region.proofs.sizes.has_cell.Goals as goal

pub returns : goal.returns
returns c = some_found c.args.strips.now c.args.cell.x c.args.cell.y c.find_strip.result c.is_some.result c.is_some.ensures c.find_strip.ensures
