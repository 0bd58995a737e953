use Rattle.std.proofs.Common.{length}
use Rattle.cif_reader.proofs.Reaching.{Reached}
use Rattle.cif_reader.proofs.reading.read.Given as goal

abbrev pub invariant-loop-builder : goal.invariant-loop-builder
invariant-loop-builder l = Reached l.bytes l.rest l.builder

abbrev pub decreases-loop-builder : goal.decreases-loop-builder
decreases-loop-builder l = length l.rest
