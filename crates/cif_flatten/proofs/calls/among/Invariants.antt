use Rattle.std.proofs.Common.{take}
use Rattle.cif_flatten.specs.Faults.{undefined_among, IsFirstIfAny}
use Rattle.cif_flatten.proofs.calls.among.Given as goal

abbrev pub invariant-loop-item : goal.invariant-loop-item
invariant-loop-item l = IsFirstIfAny (undefined_among l.file.symbols (take l.item-index l.items)) l.first
