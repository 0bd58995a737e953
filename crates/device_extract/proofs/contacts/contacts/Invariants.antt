use Rattle.device_extract.proofs.Contacting.{AreContactsTo}
use Rattle.device_extract.proofs.contacts.contacts.Given as goal

abbrev pub invariant-loop-side : goal.invariant-loop-side
invariant-loop-side l = AreContactsTo l.map l.masks l.traced l.side-items l.side-index l.contacts.items
