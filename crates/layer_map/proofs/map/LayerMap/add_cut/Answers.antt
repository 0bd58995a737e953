use Rattle.std.proofs.Common.{refl, sym}
use Rattle.layer_map.proofs.FaultLemmas.{kept_with_cut, numbers_at_hand}
use Rattle.layer_map.proofs.map.LayerMap.add_cut.Goals as goal

pub invariant_of-self-2 : goal.invariant_of-self-2
invariant_of-self-2 c = kept_with_cut c.self.inside.cuts.items c.push.new.items.items _ _ refl c.in_ok-push.ensures c.self.invariant (record { bounded = sym c.if-is_unbounded.ensures; wires = numbers_at_hand c.self.inside.wires.items _ _ _ c.deref.ensures.value c.requires.list.some (rw c.in-Some-2.is at c.in_ok-wires.ensures) })
