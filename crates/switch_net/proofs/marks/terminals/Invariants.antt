use Rattle.std.proofs.Common.{◌≡◌, ℕ, length, take}
use Rattle.switch_net.specs.Switches.{value, joins_some}
use Rattle.switch_net.proofs.marks.terminals.Given as goal

abbrev pub invariant-loop-fet : goal.invariant-loop-fet
invariant-loop-fet l = record {
  each : length l.marks.items ≡ l.fn.nets;
  is : (n : ℕ) → value l.marks.items n ≡ joins_some (take l.fet-index l.fets) n;
}
