use Rattle.std.proofs.Common.{◌≡◌, map, filter}
use Rattle.std.specs.List.{range_with_len}
use Rattle.switch_net.specs.Switches.{value}
use Rattle.switch_net.proofs.marks.chosen.Given as goal

abbrev pub invariant-loop-net : goal.invariant-loop-net
invariant-loop-net l = map (λ n. n.0) l.nets.items ≡ filter (value l.marks) (range_with_len 0 l.net)
