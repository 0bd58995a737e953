-- Worked instances of the definitions: values that are computed, circuits that are kept or refused, paths and drives.
use Rattle.std.proofs.Common.{arith, ◌≡◌, ℕ, zero, suc, ◌<◌, Bool, true, false, List, [], ◌∷◌, filter, slice_get, Some, None, refl, subst}
use Rattle.std.specs.List.{All, range_with_len}
use Rattle.std.proofs.lemmas.Bool.{true≢false, agree_below_at}
use Rattle.link_classes.proofs.UniqueNumbers.{some_one, no_some}
use Rattle.switch_net.specs.declared.NetId.{NetId}
use Rattle.switch_net.specs.declared.Kind.{Kind}
use Rattle.switch_net.specs.declared.Kind.TheVariants.{N, P}
use Rattle.switch_net.specs.declared.fets.Fet.{Fet}
use Rattle.switch_net.specs.declared.drives.Drive.TheVariants.{High, Low}
use Rattle.switch_net.specs.Switches.{Switches, switches, value, is_supply, gates_some, joins_some}
use Rattle.switch_net.specs.Inputs.{is_floating_gate, inputs_of}
use Rattle.switch_net.specs.Conduction.{is_conducting, is_move, IsWay, HasPath, IsDriveOf}
use Rattle.switch_net.specs.Refusals.{IsFetBelow, AreParts, IsNone, is_askable, IsCircuit, IsFloating, IsMisnamed}
use Rattle.switch_net.proofs.Checking.{none_below}

abbrev net : ℕ → NetId
net n = record { 0 = n }

abbrev fet : Kind → ℕ → ℕ → ℕ → Fet
fet kind gate a b = record { kind = kind; gate = net gate; a = net a; b = net b }

-- ---- an inverter

-- the nets: 0 is the input, 1 the low and 3 the high supply, 2 the output
abbrev inverter : Switches
inverter = switches (true ∷ true ∷ true ∷ true ∷ []) (fet N 0 1 2 ∷ fet P 0 2 3 ∷ []) 3 1 []

-- the input is 0
abbrev off : ℕ → Bool
off = value (false ∷ false ∷ true ∷ true ∷ [])

n_is_off : is_conducting off (fet N 0 1 2) ≡ false
n_is_off = refl

p_is_on : is_conducting off (fet P 0 2 3) ≡ true
p_is_on = refl

-- the input is 1
abbrev on : ℕ → Bool
on = value (true ∷ false ∷ false ∷ true ∷ [])

n_is_on : is_conducting on (fet N 0 1 2) ≡ true
n_is_on = refl

p_is_off : is_conducting on (fet P 0 2 3) ≡ false
p_is_off = refl

-- a step leads both ways
output_goes_high : HasPath inverter inverter.fets None off 2 3
output_goes_high = record { between = []; leads = refl }

high_goes_to_output : HasPath inverter inverter.fets None off 3 2
high_goes_to_output = record { between = []; leads = refl }

-- the extra edge of a bridge always conducts
bridged_output_goes_low : HasPath inverter inverter.fets (Some (1, 2)) off 2 1
bridged_output_goes_low = record { between = []; leads = refl }

-- a supply is driven by itself
low_is_low : IsDriveOf inverter off 1 Low
low_is_low = record { at_high = λ same. absurd (omega (arith, same)); at_low = λ same. refl; elsewhere = λ plain. absurd (true≢false plain) }

low_is_not_high : IsDriveOf inverter off 1 High → ⊥
low_is_not_high h = let none : ⊥ = cc (h.at_low refl) in none

-- ---- no path through a supply

-- from net 3 to the low supply 1, and from there to the high supply 2
abbrev line : Switches
line = switches (true ∷ true ∷ true ∷ true ∷ []) (fet N 0 3 1 ∷ fet N 0 1 2 ∷ []) 2 1 []

to_low : HasPath line line.fets None on 3 1
to_low = record { between = []; leads = refl }

-- each of the two moves is there
first_move : is_move line.fets None on 3 1 ≡ true
first_move = refl

second_move : is_move line.fets None on 1 2 ≡ true
second_move = refl

not_through_low : IsWay (is_move line.fets None on) (is_supply line) 3 (1 ∷ []) 2 → ⊥
not_through_low leads = true≢false leads.1

-- ---- seven nets

-- Two inverters of the inputs 0 and 1, with the outputs 4 and 6. A transistor that the high supply gates links 4 and 5.
abbrev seven_fets : List Fet
seven_fets = fet N 0 2 4 ∷ fet P 0 3 4 ∷ fet N 3 4 5 ∷ fet N 1 2 6 ∷ fet P 1 3 6 ∷ []

abbrev seven : List NetId → Switches
seven asked = switches (true ∷ true ∷ true ∷ true ∷ true ∷ true ∷ true ∷ []) seven_fets 3 2 asked

the_inputs : inputs_of (seven []) ≡ 0 ∷ 1 ∷ []
the_inputs = refl

the_gates : filter (gates_some seven_fets) (range_with_len 0 7) ≡ 0 ∷ 1 ∷ 3 ∷ []
the_gates = refl

the_terminals : filter (joins_some seven_fets) (range_with_len 0 7) ≡ 2 ∷ 3 ∷ 4 ∷ 5 ∷ 6 ∷ []
the_terminals = refl

-- a path of two moves
through_the_link : HasPath (seven []) seven_fets None (value (false ∷ false ∷ false ∷ true ∷ true ∷ true ∷ true ∷ [])) 5 3
through_the_link = record { between = 4 ∷ []; leads = (refl, refl, refl) }

fets_below : All (IsFetBelow 7) seven_fets
fets_below zero d lt = record { gate = omega arith; a = omega arith; b = omega arith }
fets_below (suc zero) d lt = record { gate = omega arith; a = omega arith; b = omega arith }
fets_below (suc (suc zero)) d lt = record { gate = omega arith; a = omega arith; b = omega arith }
fets_below (suc (suc (suc zero))) d lt = record { gate = omega arith; a = omega arith; b = omega arith }
fets_below (suc (suc (suc (suc zero)))) d lt = record { gate = omega arith; a = omega arith; b = omega arith }
fets_below (suc (suc (suc (suc (suc k))))) d lt = absurd (omega (arith, lt))

asked_below : All (λ (m : NetId). m.0 < 7) (net 4 ∷ net 3 ∷ [])
asked_below zero d lt = omega arith
asked_below (suc zero) d lt = omega arith
asked_below (suc (suc k)) d lt = absurd (omega (arith, lt))

-- The parts of the circuit may be handed in, also where the user asks for the high supply.
seven_parts : AreParts (seven (net 4 ∷ net 3 ∷ []))
seven_parts = record {
  few_nets = omega arith;
  few_fets = omega arith;
  few_asked = omega arith;
  fets = fets_below;
  high = omega arith;
  low = omega arith;
  asked = asked_below;
  apart = λ same. absurd (omega (arith, same));
  high_labelled = refl;
  low_labelled = refl;
}

none_floats : (asked : List NetId) → IsNone (is_floating_gate (seven asked))
none_floats asked = none_below (seven asked) fets_below (λ n lt. agree_below_at (is_floating_gate (seven asked)) (λ m. false) 7 n refl lt)

-- The parts are kept where the user asks for terminals that are no supply.
seven_kept : IsCircuit (seven (net 4 ∷ net 6 ∷ []))
seven_kept = record { parts = parts; gated = none_floats (net 4 ∷ net 6 ∷ []); few = omega arith; asked = record { each = each } } where
  below : All (λ (m : NetId). m.0 < 7) (net 4 ∷ net 6 ∷ [])
  below zero d lt = omega arith
  below (suc zero) d lt = omega arith
  below (suc (suc k)) d lt = absurd (omega (arith, lt))

  parts : AreParts (seven (net 4 ∷ net 6 ∷ []))
  parts = record {
    few_nets = omega arith;
    few_fets = omega arith;
    few_asked = omega arith;
    fets = fets_below;
    high = omega arith;
    low = omega arith;
    asked = below;
    apart = λ same. absurd (omega (arith, same));
    high_labelled = refl;
    low_labelled = refl;
  }

  each : (k : ℕ) (m : NetId) → slice_get (net 4 ∷ net 6 ∷ []) k ≡ Some m → is_askable (seven (net 4 ∷ net 6 ∷ [])) m.0 ≡ true
  each zero m at = subst (λ x. is_askable (seven (net 4 ∷ net 6 ∷ [])) x.0 ≡ true) (some_one (net 4) m at) refl
  each (suc zero) m at = subst (λ x. is_askable (seven (net 4 ∷ net 6 ∷ [])) x.0 ≡ true) (some_one (net 6) m at) refl
  each (suc (suc k)) m at = no_some m at

-- A word that names a supply is refused, by its index.
names_a_supply : IsMisnamed (seven (net 4 ∷ net 3 ∷ [])) 1
names_a_supply = record { gated = none_floats (net 4 ∷ net 3 ∷ []); few = omega arith; first = record { net = net 3; at = refl; bad = refl; first = first } } where
  first : (j : ℕ) (m : NetId) → j < 1 → slice_get (net 4 ∷ net 3 ∷ []) j ≡ Some m → is_askable (seven (net 4 ∷ net 3 ∷ [])) m.0 ≡ true
  first zero m lt at = subst (λ x. is_askable (seven (net 4 ∷ net 3 ∷ [])) x.0 ≡ true) (some_one (net 4) m at) refl
  first (suc j) m lt at = absurd (omega (arith, lt))

-- an input is no terminal either
names_an_input : is_askable (seven []) 0 ≡ false
names_an_input = refl

-- ---- a floating gate

-- the input 1 is not labelled
abbrev open_input : Switches
open_input = switches (true ∷ false ∷ true ∷ true ∷ true ∷ true ∷ true ∷ []) seven_fets 3 2 []

floats : IsFloating open_input 1
floats = record { holds = refl; least = least } where
  least : (m : ℕ) → m < 1 → is_floating_gate open_input m ≡ false
  least zero lt = refl
  least (suc m) lt = absurd (omega (arith, lt))

-- a labelled gate doesn't float, nor does the gate that is a supply
labelled_gate : is_floating_gate open_input 0 ≡ false
labelled_gate = refl

supply_gate : is_floating_gate open_input 3 ≡ false
supply_gate = refl
