use Rattle.std.proofs.Common.{take}
use Rattle.std.specs.List.{AllZip}
use Rattle.layout_extract.specs.Tags.{IsKept}
use Rattle.layout_extract.proofs.names.kept.Given as goal

abbrev pub invariant-loop-tag : goal.invariant-loop-tag
invariant-loop-tag l = AllZip IsKept (take l.tag-index l.tags) l.kept.items
