-- Nets that are the same, whatever strips their cells are kept as.
use Rattle.std.specs.Prelude.{◌≡◌, ℕ, length}
use Rattle.net_trace.specs.declared.node.Node.{Node}
use Rattle.net_trace.specs.Touching.{Nets}
use Rattle.net_trace.specs.Nets.{IsNetNumber, IsNetCount}

-- They have as many wires and as many nets, and each node lies in the nets of the same number.
pub record AreSameNets (a b : Nets) : Type 0 where
  pub wires : length a.wires ≡ length b.wires
  pub count : (n : ℕ) → IsNetCount a n → IsNetCount b n
  pub number : (node : Node) (n : ℕ) → IsNetNumber a node n → IsNetNumber b node n
  pub back : (node : Node) (n : ℕ) → IsNetNumber b node n → IsNetNumber a node n
