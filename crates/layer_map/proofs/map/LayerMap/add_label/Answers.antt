use Rattle.std.proofs.Common.{refl}
use Rattle.layer_map.proofs.FaultLemmas.{kept_with_label, numbers_at_hand, layer_at_hand}
use Rattle.layer_map.proofs.map.LayerMap.add_label.Goals as goal

pub invariant_of-self-2 : goal.invariant_of-self-2
invariant_of-self-2 c = kept_with_label c.self.inside.labels.items c.push.new.items.items _ _ refl c.in_ok-push.ensures c.self.invariant (numbers_at_hand c.self.inside.wires.items _ _ _ c.deref.ensures.value c.requires.list.some (rw c.in-Some.is at c.in_ok-wires.ensures)) (layer_at_hand c.self.inside.labels.items _ _ c.deref-2.ensures.value c.if-is_layer.ensures)
