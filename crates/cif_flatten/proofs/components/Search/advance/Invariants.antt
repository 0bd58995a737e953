use Rattle.std.proofs.Common.{◌-◌, length}
use Rattle.cif_flatten.proofs.components.Search.advance.Given as goal

abbrev pub decreases-loop-visit : goal.decreases-loop-visit
decreases-loop-visit l = length l.symbol.items.items - l.visit.next
