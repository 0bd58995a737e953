use Rattle.device_extract.specs.Contacts.{AreSides}
use Rattle.device_extract.proofs.sides.sides.Given as goal

abbrev pub invariant-loop-k : goal.invariant-loop-k
invariant-loop-k l = AreSides l.map.fets l.k l.sides.items
