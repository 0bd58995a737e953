use Rattle.std.proofs.Common.{◌≡◌, map, take}
use Rattle.device_extract.specs.Contacts.{strip_shifted}
use Rattle.device_extract.proofs.shifts.shifted.Given as goal

abbrev pub invariant-loop-strip : goal.invariant-loop-strip
invariant-loop-strip l = l.shifted ≡ map (strip_shifted l.side.right l.side.up) (take l.strip-index l.strip-items)
