-- Circuits in which no gate floats.
use Rattle.std.proofs.Common.{arith, ◌≡◌, inl, inr, ℕ, ◌<◌, ◌≤◌, false, ◌&&◌, not, List, get_or, ap}
use Rattle.std.specs.List.{All}
use Rattle.std.proofs.lemmas.Bool.{cases_lt, ne_eqb}
use Rattle.std.proofs.lemmas.List.Folds.{list_any_none}
use Rattle.switch_net.specs.declared.fets.Fet.{Fet}
use Rattle.switch_net.specs.Switches.{Switches, net_count, value, is_supply, is_gate, gates_some, joins_some}
use Rattle.switch_net.specs.Inputs.{is_floating_gate}
use Rattle.switch_net.specs.Refusals.{IsFetBelow, IsNone}

-- a net past all transistors gates none of them
gates_none : (size : ℕ) (fets : List Fet) (n : ℕ) → All (IsFetBelow size) fets → size ≤ n → gates_some fets n ≡ false
gates_none size fets n below past = list_any_none (is_gate n) fets (λ k d lt. ne_eqb (get_or fets k d).gate.0 n (λ same. omega (arith, same, (below k d lt).gate, past)))

-- where no net of the circuit floats, no number does
pub none_below : (c : Switches) → All (IsFetBelow (net_count c)) c.fets → ((n : ℕ) → n < net_count c → is_floating_gate c n ≡ false) → IsNone (is_floating_gate c)
none_below c below before = record { none = none } where
  none : (n : ℕ) → is_floating_gate c n ≡ false
  none n = elim (cases_lt n (net_count c)) [
    | inl lt ↦ before n lt
    | inr past ↦ ap (λ t. (t && (not (joins_some c.fets n) && not (is_supply c n))) && not (value c.labelled n)) (gates_none (net_count c) c.fets n below past)
  ]
