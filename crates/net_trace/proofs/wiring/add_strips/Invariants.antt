use Rattle.std.proofs.Common.{◌≡◌, ◌++◌, take}
use Rattle.net_trace.specs.Wirings.{strips_of}
use Rattle.net_trace.proofs.wiring.add_strips.Given as goal

abbrev pub invariant-loop-strip : goal.invariant-loop-strip
invariant-loop-strip l = l.vertices.items ≡ l.fn.vertices.items ++ strips_of l.wire (take l.strip-index l.strip-items)
