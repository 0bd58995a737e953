use Rattle.std.proofs.Common.{take}
use Rattle.std.specs.List.{All}
use Rattle.mask_region.specs.Columns.{IsInColumns}
use Rattle.mask_region.proofs.columns.columns_of.Given as goal

abbrev pub invariant-loop-strip : goal.invariant-loop-strip
invariant-loop-strip l = All (IsInColumns l.left l.right) (take l.strip-index l.strips)
