use Rattle.std.proofs.Common.{take}
use Rattle.cif_flatten.specs.Reaching.{Grown}
use Rattle.cif_flatten.proofs.circles.add_calls.Given as goal

abbrev pub invariant-loop-item : goal.invariant-loop-item
invariant-loop-item l = Grown l.file.symbols (take l.item-index l.items) l.fn.found.keys l.found.keys
