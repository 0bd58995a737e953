use Rattle.std.proofs.Common.{take}
use Rattle.std.specs.List.{AllZip}
use Rattle.layout_extract.specs.Tags.{IsTagOf}
use Rattle.layout_extract.proofs.tags.tags.Given as goal

abbrev pub invariant-loop-spot : goal.invariant-loop-spot
invariant-loop-spot l = AllZip (IsTagOf l.traced) (take l.spot-index l.spots) l.tags.items
