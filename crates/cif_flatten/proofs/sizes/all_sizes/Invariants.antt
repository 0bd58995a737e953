use Rattle.std.proofs.Common.{take}
use Rattle.cif_flatten.specs.Sizes.{AreSizes, AreSettled, AreBegun}
use Rattle.cif_flatten.proofs.sizes.all_sizes.Given as goal

abbrev pub invariant-loop-place : goal.invariant-loop-place
invariant-loop-place l = record {
  sizes : AreSizes l.file.symbols l.sizes;
  settled : AreSettled l.sizes;
  begun : AreBegun (take l.place l.file.symbols) l.sizes;
}
