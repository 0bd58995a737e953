-- Tables of marks: a bit for each net.
use Rattle.std.specs.Prelude.{◌≡◌, ℕ, Bool, List, length}
use Rattle.switch_net.specs.Switches.{Switches, net_count, value, gates_some, joins_some}

-- There are so many marks, and exactly the nets that pass the test are marked.
pub record AreMarks (size : ℕ) (test : ℕ → Bool) (marks : List Bool) : Type 0 where
  pub each : length marks ≡ size
  pub is : (n : ℕ) → value marks n ≡ test n

-- The tables mark the nets that gate a transistor of the circuit, and those that are a terminal of one.
pub record AreUses (c : Switches) (gates terminals : List Bool) : Type 0 where
  pub gate : AreMarks (net_count c) (gates_some c.fets) gates
  pub terminal : AreMarks (net_count c) (joins_some c.fets) terminals
