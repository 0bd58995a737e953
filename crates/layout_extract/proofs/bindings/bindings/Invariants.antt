use Rattle.std.proofs.Common.{take}
use Rattle.std.specs.List.{AllZip}
use Rattle.layout_extract.specs.Binding.{IsBinding}
use Rattle.layout_extract.proofs.bindings.bindings.Given as goal

abbrev pub invariant-loop-mark : goal.invariant-loop-mark
invariant-loop-mark l = AllZip (IsBinding l.traced l.map) (take l.mark-index l.marks) l.found.items
