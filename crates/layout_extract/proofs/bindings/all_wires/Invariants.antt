use Rattle.std.proofs.Common.{◌≡◌}
use Rattle.std.specs.List.{range_with_len}
use Rattle.layer_map.specs.Views.{numbers_seen}
use Rattle.layout_extract.proofs.bindings.all_wires.Given as goal

abbrev pub invariant-loop-k : goal.invariant-loop-k
invariant-loop-k l = numbers_seen l.all.items ≡ range_with_len 0 l.k
