use Rattle.std.proofs.Common.{◌≡◌, ◌-◌, ◌≤◌, length, take}
use Rattle.cif_flatten.specs.Unfolding.{items_of}
use Rattle.cif_flatten.specs.Sizes.{HasSize}
use Rattle.cif_flatten.proofs.sizes.advance.Given as goal

abbrev pub invariant-loop-next : goal.invariant-loop-next
invariant-loop-next l = record {
  items : items_of l.file.symbols l.frame.number ≡ l.symbol.items.items;
  within : l.next ≤ length l.symbol.items.items;
  size : HasSize l.file.symbols (take l.next l.symbol.items.items) l.size;
}

abbrev pub decreases-loop-next : goal.decreases-loop-next
decreases-loop-next l = length l.symbol.items.items - l.next
