use Rattle.std.proofs.Common.{take}
use Rattle.device_extract.specs.Contacts.{AreEndsOf}
use Rattle.device_extract.proofs.terminals.ends_of.Given as goal

abbrev pub invariant-loop-fet : goal.invariant-loop-fet
invariant-loop-fet l = AreEndsOf (take l.fet-index l.contacts) l.count l.ends.items
