use Rattle.std.proofs.Common.{◌≡◌, ℕ, ◌<◌, false}
use Rattle.switch_net.specs.Inputs.{is_floating_gate}
use Rattle.switch_net.proofs.checks.first_floating.Given as goal

abbrev pub invariant-loop-number : goal.invariant-loop-number
invariant-loop-number l = (m : ℕ) → m < l.number → is_floating_gate l.parts m ≡ false
