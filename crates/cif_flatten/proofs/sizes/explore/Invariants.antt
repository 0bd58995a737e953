use Rattle.std.proofs.Common.{◌+◌, ◌*◌, length}
use Rattle.cif_flatten.specs.Sizes.{count_new, Exploring}
use Rattle.cif_flatten.proofs.sizes.explore.Given as goal

abbrev pub invariant-loop-called : goal.invariant-loop-called
invariant-loop-called l = record {
  state : Exploring l.file.symbols l.fn.sizes l.sizes l.number l.below.items l.top;
}

abbrev pub decreases-loop-called : goal.decreases-loop-called
decreases-loop-called l = 2 * count_new l.file.symbols l.sizes + length l.below.items
