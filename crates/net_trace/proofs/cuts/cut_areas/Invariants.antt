use Rattle.std.proofs.Common.{◌≡◌, map, take}
use Rattle.layer_map.specs.Views.{numbers_seen}
use Rattle.net_trace.proofs.cuts.cut_areas.Given as goal
use Rattle.net_trace.specs.Touching.{cuts_with}

abbrev pub invariant-loop-k : goal.invariant-loop-k
invariant-loop-k l = l.cuts.items ≡ cuts_with (take l.k l.regions) (map (λ c. numbers_seen c.wires.items) (take l.k l.lines))
