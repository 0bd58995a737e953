-- The inputs of a circuit: the nets by which values come in.
use Rattle.std.specs.Prelude.{ℕ, Bool, ◌&&◌, not, List, filter}
use Rattle.std.specs.List.{range_with_len}
use Rattle.switch_net.specs.Switches.{Switches, net_count, value, is_supply, gates_some, joins_some}

-- the net gates a transistor, and no transistor and no supply gives it a value
abbrev pub is_open_gate : Switches → ℕ → Bool
is_open_gate c n = gates_some c.fets n && (not (joins_some c.fets n) && not (is_supply c n))

-- An input is a labelled net, no supply and no terminal, that gates a transistor.
abbrev pub is_input : Switches → ℕ → Bool
is_input c n = is_open_gate c n && value c.labelled n

-- such a net that is not labelled
abbrev pub is_floating_gate : Switches → ℕ → Bool
is_floating_gate c n = is_open_gate c n && not (value c.labelled n)

-- the inputs in net order
abbrev pub inputs_of : Switches → List ℕ
inputs_of c = filter (is_input c) (range_with_len 0 (net_count c))
