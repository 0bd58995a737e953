use Rattle.device_extract.specs.Contacts.{AreFetsAt}
use Rattle.device_extract.proofs.fets.fets.Given as goal

abbrev pub invariant-loop-t : goal.invariant-loop-t
invariant-loop-t l = AreFetsAt l.map l.traced l.roots l.ends l.t l.fets.items
