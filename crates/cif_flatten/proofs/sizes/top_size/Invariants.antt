use Rattle.std.proofs.Common.{take}
use Rattle.cif_flatten.specs.Sizes.{HasSize}
use Rattle.cif_flatten.proofs.sizes.top_size.Given as goal

abbrev pub invariant-loop-item : goal.invariant-loop-item
invariant-loop-item l = HasSize l.file.symbols (take l.item-index l.file.top) l.size
