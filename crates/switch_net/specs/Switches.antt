-- A circuit of switches, as contracts see it, and what its transistors touch. Nets are numbers from 0.
use Rattle.std.specs.Prelude.{ℕ, Bool, false, ◌||◌, ◌==◌, List, length, slice_index_or}
use Rattle.std.specs.List.{list_any}
use Rattle.switch_net.specs.declared.NetId.{NetId}
use Rattle.switch_net.specs.declared.fets.Fet.{Fet}

-- For each net, whether a label names it. Then the transistors, the two supplies, and the nets that the user asked for.
pub record Switches : Type 0 where
  pub labelled : List Bool
  pub fets : List Fet
  pub high : ℕ
  pub low : ℕ
  pub asked : List NetId

abbrev pub switches : List Bool → List Fet → ℕ → ℕ → List NetId → Switches
switches labelled fets high low asked = record { labelled = labelled; fets = fets; high = high; low = low; asked = asked }

abbrev pub net_count : Switches → ℕ
net_count c = length c.labelled

-- the value of a net; past the end of the list it is 0
abbrev pub value : List Bool → ℕ → Bool
value values n = slice_index_or values n false

abbrev pub has_net : List NetId → ℕ → Bool
has_net nets n = list_any (λ m. m.0 == n) nets

abbrev pub is_supply : Switches → ℕ → Bool
is_supply c n = n == c.high || n == c.low

-- the net gates the transistor
abbrev pub is_gate : ℕ → Fet → Bool
is_gate n f = f.gate.0 == n

-- the net is a terminal of the transistor
abbrev pub is_terminal : ℕ → Fet → Bool
is_terminal n f = f.a.0 == n || f.b.0 == n

-- some of the transistors are gated by the net
abbrev pub gates_some : List Fet → ℕ → Bool
gates_some fets n = list_any (is_gate n) fets

-- some of them have the net as a terminal
abbrev pub joins_some : List Fet → ℕ → Bool
joins_some fets n = list_any (is_terminal n) fets
