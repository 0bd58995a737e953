use Rattle.std.proofs.Common.{◌≡◌, drop}
use Rattle.cif_reader.specs.Near.{end_along}
use Rattle.cif_reader.proofs.path.end_along_axes.Given as goal

abbrev pub invariant-loop-next : goal.invariant-loop-next
invariant-loop-next l = end_along l.fn.first l.others ≡ end_along l.last (drop l.next-index l.others)
