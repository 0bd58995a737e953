use Rattle.std.specs.Io.KnownBytes.{Keeps}
use Rattle.probe_io.proofs.real.write_some.Given as goal

-- the tries so far wrote nothing
abbrev pub invariant-loop : goal.invariant-loop
invariant-loop g l = record {
  kept : Keeps (g.W.Write.contents l.fn.writer) (g.W.Write.contents l.writer);
}
