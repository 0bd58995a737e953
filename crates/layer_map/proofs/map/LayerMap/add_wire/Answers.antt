use Rattle.std.proofs.Common.{refl, sym, arith}
use Rattle.layer_map.proofs.FaultLemmas.{kept_with_wire}
use Rattle.layer_map.proofs.map.LayerMap.add_wire.Goals as goal

pub invariant_of-self-2 : goal.invariant_of-self-2
invariant_of-self-2 c = kept_with_wire c.self.inside.wires.items c.push.new.items.items _ _ refl c.in_ok-push.ensures c.self.invariant (omega (arith, c.self.inside.wires.ok.0)) (sym c.if-is_unbounded.ensures)
