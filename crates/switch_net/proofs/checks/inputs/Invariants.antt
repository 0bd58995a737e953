use Rattle.std.proofs.Common.{◌≡◌, map, filter}
use Rattle.std.specs.List.{range_with_len}
use Rattle.switch_net.specs.Inputs.{is_input}
use Rattle.switch_net.proofs.checks.inputs.Given as goal

abbrev pub invariant-loop-net : goal.invariant-loop-net
invariant-loop-net l = map (λ n. n.0) l.nets.items ≡ filter (is_input l.parts) (range_with_len 0 l.net)
