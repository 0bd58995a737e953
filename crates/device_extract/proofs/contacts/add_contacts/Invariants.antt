use Rattle.device_extract.proofs.Contacting.{IsContacting}
use Rattle.device_extract.proofs.contacts.add_contacts.Given as goal

abbrev pub invariant-loop-strip : goal.invariant-loop-strip
invariant-loop-strip l = IsContacting l.pieces l.traced l.side l.strip-items l.strip-index l.fn.contacts.items l.contacts.items
