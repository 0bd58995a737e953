use Rattle.std.proofs.Common.{take}
use Rattle.cif_flatten.specs.Faults.{undefined_in_symbols, IsFirstIfAny}
use Rattle.cif_flatten.proofs.calls.in_symbols.Given as goal

abbrev pub invariant-loop-place : goal.invariant-loop-place
invariant-loop-place l = IsFirstIfAny (undefined_in_symbols l.file.symbols (take l.place l.file.symbols)) l.first
