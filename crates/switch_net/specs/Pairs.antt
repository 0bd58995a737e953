-- Pairs of nets.
use Rattle.std.specs.Prelude.{◌<◌}
use Rattle.switch_net.specs.declared.NetId.{NetId}

-- two nets, the one with the smaller number first
pub record NetPair : Type 0 where
  pub a : NetId
  pub b : NetId

pub record IsPair (p : NetPair) : Type 0 where
  pub rising : p.a.0 < p.b.0
