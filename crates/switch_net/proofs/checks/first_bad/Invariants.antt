use Rattle.std.proofs.Common.{◌≡◌, ℕ, ◌<◌, true, slice_get, Some}
use Rattle.switch_net.specs.declared.NetId.{NetId}
use Rattle.switch_net.specs.Refusals.{is_askable}
use Rattle.switch_net.proofs.checks.first_bad.Given as goal

abbrev pub invariant-loop-index : goal.invariant-loop-index
invariant-loop-index l = (j : ℕ) (m : NetId) → j < l.index → slice_get l.net-items j ≡ Some m → is_askable l.parts m.0 ≡ true
