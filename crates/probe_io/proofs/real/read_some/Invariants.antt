use Rattle.std.specs.Io.KnownBytes.{Keeps}
use Rattle.probe_io.proofs.real.read_some.Given as goal

-- the tries so far took nothing
abbrev pub invariant-loop : goal.invariant-loop
invariant-loop g l = record {
  kept : Keeps (g.F.Read.remaining l.fn.file) (g.F.Read.remaining l.file);
}
