-- Which circuits are accepted, and why one is not.
use Rattle.std.specs.Prelude.{◌≡◌, ℕ, ◌<◌, ◌≤◌, Bool, true, false, ◌&&◌, not, length, slice_get, Some}
use Rattle.std.specs.List.{All}
use Rattle.switch_net.specs.declared.NetId.{NetId}
use Rattle.switch_net.specs.declared.fets.Fet.{Fet}
use Rattle.switch_net.specs.declared.refusal.CircuitRefusal.{CircuitRefusal}
use Rattle.switch_net.specs.declared.refusal.CircuitRefusal.TheVariants.{FloatingGate, TooManyInputs, NotTerminal, NoMemory}
use Rattle.switch_net.specs.Switches.{Switches, net_count, value, is_supply, joins_some}
use Rattle.switch_net.specs.Inputs.{is_floating_gate, inputs_of}

-- ---- parts

-- The nets of the transistor are below the number.
pub record IsFetBelow (nets : ℕ) (f : Fet) : Type 0 where
  pub gate : f.gate.0 < nets
  pub a : f.a.0 < nets
  pub b : f.b.0 < nets

-- What the parts of a circuit are asked to be: all nets are in range, of which there are at most 8,192, the two supplies
-- differ and are labelled, and there are at most 4,096 transistors and fewer than 4,096 nets that the user asked for.
pub record AreParts (c : Switches) : Type 0 where
  pub few_nets : net_count c ≤ 8192
  pub few_fets : length c.fets ≤ 4096
  pub few_asked : length c.asked < 4096
  pub fets : All (IsFetBelow (net_count c)) c.fets
  pub high : c.high < net_count c
  pub low : c.low < net_count c
  pub asked : All (λ m. m.0 < net_count c) c.asked
  pub apart : c.high ≡ c.low → ⊥
  pub high_labelled : value c.labelled c.high ≡ true
  pub low_labelled : value c.labelled c.low ≡ true

-- ---- refusals

-- No number passes the test.
pub record IsNone (test : ℕ → Bool) : Type 0 where
  pub none : (n : ℕ) → test n ≡ false

-- This is the least number that passes the test.
pub record IsLeast (test : ℕ → Bool) (n : ℕ) : Type 0 where
  pub holds : test n ≡ true
  pub least : (m : ℕ) → m < n → test m ≡ false

-- the user may ask for the net: it is a terminal and no supply
abbrev pub is_askable : Switches → ℕ → Bool
is_askable c n = joins_some c.fets n && not (is_supply c n)

-- The user may ask for all nets that he asked for.
pub record AreTerminals (c : Switches) : Type 0 where
  pub each : (k : ℕ) (m : NetId) → slice_get c.asked k ≡ Some m → is_askable c m.0 ≡ true

-- The net at this index is the first one that he may not ask for.
pub record IsFirstBad (c : Switches) (k : ℕ) : Type 0 where
  pub net : NetId
  pub at : slice_get c.asked k ≡ Some net
  pub bad : is_askable c net.0 ≡ false
  pub first : (j : ℕ) (m : NetId) → j < k → slice_get c.asked j ≡ Some m → is_askable c m.0 ≡ true

-- What a circuit keeps: every gate is a supply, a terminal or labelled, there are at most 256 inputs, and what the user
-- asked for are terminals that are no supply.
pub record IsCircuit (c : Switches) : Type 0 where
  pub parts : AreParts c
  pub gated : IsNone (is_floating_gate c)
  pub few : length (inputs_of c) ≤ 256
  pub asked : AreTerminals c

-- A net gates a transistor and is no supply, no terminal and not labelled, and it is the least such net.
abbrev pub IsFloating : Switches → ℕ → Type 0
IsFloating c n = IsLeast (is_floating_gate c) n

-- There is no such net, and there are more than 256 inputs.
pub record IsWide (c : Switches) : Type 0 where
  pub gated : IsNone (is_floating_gate c)
  pub many : 256 < length (inputs_of c)

-- Neither holds, and this is the index of the first net that the user may not ask for.
pub record IsMisnamed (c : Switches) (k : ℕ) : Type 0 where
  pub gated : IsNone (is_floating_gate c)
  pub few : length (inputs_of c) ≤ 256
  pub first : IsFirstBad c k

-- what holds of the parts that are refused so; a want of memory says nothing of them
abbrev pub IsRefusedAs : Switches → CircuitRefusal → Type 0
IsRefusedAs c (FloatingGate net) = IsFloating c net.0
IsRefusedAs c TooManyInputs = IsWide c
IsRefusedAs c (NotTerminal index) = IsMisnamed c index
IsRefusedAs c NoMemory = Unit {0}
