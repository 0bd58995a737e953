use Rattle.device_extract.proofs.Gating.{AreGatedTo}
use Rattle.device_extract.proofs.gates.first_ungated.Given as goal

abbrev pub invariant-loop-k : goal.invariant-loop-k
invariant-loop-k l = AreGatedTo l.map l.masks l.k
