use Rattle.std.proofs.Common.{refl, sym, arith}
use Rattle.layer_map.proofs.FaultLemmas.{kept_with_fet, number_at_hand}
use Rattle.layer_map.proofs.map.LayerMap.add_fet.Goals as goal

pub invariant_of-self-2 : goal.invariant_of-self-2
invariant_of-self-2 c = kept_with_fet c.self.inside.fets.items c.push.new.items.items _ _ refl c.in_ok-push.ensures c.self.invariant (omega (arith, c.self.inside.fets.ok.0)) (record { bounded = sym c.if-is_unbounded.ensures; gate = number_at_hand c.self.inside.wires.items _ _ _ c.deref.ensures.value c.in-Some-wire_of.ensures; diff = number_at_hand c.self.inside.wires.items _ _ _ c.deref-2.ensures.value c.in-Some-wire_of-2.ensures })
