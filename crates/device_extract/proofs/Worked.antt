-- Worked rows: a channel of four by four cells, and none at all.
use Rattle.std.proofs.Common.{◌≡◌, ℕ, true, false, [], ◌∷◌, refl, sym, ap, zero, suc, arith, slice_get, Some}
use Rattle.std.specs.Prelude.{pos}
use Rattle.switch_net.specs.declared.Kind.TheVariants.{N}
use Rattle.switch_net.specs.declared.fets.Fet.{Fet}
use Rattle.layer_map.specs.Plan.{Plan}
use Rattle.layer_map.specs.Plan as layers
use Rattle.layer_map.specs.Truth.{on}
use Rattle.link_classes.proofs.UniqueNumbers.{some_one, no_some}
use Rattle.mask_region.specs.Strips.{MaskLists}
use Rattle.net_trace.specs.declared.node.Node.{Node}
use Rattle.net_trace.specs.Touching.{Nets, is_node, is_beside, has_node, plane_of}
use Rattle.net_trace.specs.Nets.{IsNetCount}
use Rattle.net_trace.proofs.Lists.{not_both_ways}
use Rattle.net_trace.proofs.NetNumbers.{net_count}
use Rattle.device_extract.specs.declared.terminals.Ends.TheVariants.{One, Two, Crowded}
use Rattle.device_extract.specs.Channels.{channel_plane, IsUngated, AreGated}
use Rattle.device_extract.specs.Transistors.{AreTransistors}
use Rattle.device_extract.specs.Contacts.{IsPair, HasPair}

abbrev line : layers.Fet
line = record { kind = N; channel = on []; gate = 0; diff = 1 }

-- two wires, and one line of transistors
abbrev plan : Plan
plan = record { wires = record { name = 112 ∷ []; formula = on [] } ∷ record { name = 110 ∷ []; formula = on [] } ∷ []; cuts = []; fets = line ∷ []; labels = []; high = []; low = [] }

-- a channel with nothing on the two wires
abbrev bare : MaskLists
bare = record { wires = [] ∷ [] ∷ []; cuts = []; channels = (record { y0 = pos 0; y1 = pos 4; x0 = pos 0; x1 = pos 4 } ∷ []) ∷ [] }

-- the same channel, with its gate
abbrev gated : MaskLists
gated = record { wires = (record { y0 = pos 0; y1 = pos 4; x0 = pos 0; x1 = pos 4 } ∷ []) ∷ [] ∷ []; cuts = []; channels = (record { y0 = pos 0; y1 = pos 4; x0 = pos 0; x1 = pos 4 } ∷ []) ∷ [] }

-- the channel has no gate at its least cell, and so it is not gated
no_gate : IsUngated plan bare 0 (pos 0) (pos 0)
no_gate = record { fet = line; at = refl; channel = refl; bare = refl }

not_gated : AreGated plan bare → ⊥
not_gated h = h.each 0 (pos 0) (pos 0) no_gate

-- with the gate there, that cell is gated
with_gate : IsUngated plan gated 0 (pos 0) (pos 0) → ⊥
with_gate h = by_fet h.fet h.at h.bare
  where
    by_fet : (f : layers.Fet) → slice_get plan.fets 0 ≡ Some f → has_node (plane_of gated.wires) f.gate (pos 0) (pos 0) ≡ false → ⊥
    by_fet f at missing =
        let same : line ≡ f = some_one line f at in
        not_both_ways (has_node (plane_of gated.wires) f.gate (pos 0) (pos 0)) (ap (λ (g : layers.Fet). has_node (plane_of gated.wires) g.gate (pos 0) (pos 0)) (sym same)) missing

-- cells that meet at a corner alone share no edge
corner : is_beside (pos 3) (pos 3) (pos 4) (pos 4) ≡ false
corner = refl

side : is_beside (pos 3) (pos 3) (pos 4) (pos 3) ≡ true
side = refl

-- one net alone is both terminals, two are in their order, and three are no pair
alone : IsPair (One (record { 0 = 1 })) (record { 0 = 1 }) (record { 0 = 1 })
alone = (refl, refl)

both : IsPair (Two (record { 0 = 1 }) (record { 0 = 2 })) (record { 0 = 1 }) (record { 0 = 2 })
both = (refl, refl)

three : HasPair Crowded → ⊥
three h = h.is

-- ---- no channel

abbrev none : MaskLists
none = record { wires = [] ∷ [] ∷ []; cuts = []; channels = [] ∷ [] }

no_node : (a : Node) → is_node (channel_plane none) a ≡ true → ⊥
no_node a h = by_wire a.wire h
  where
    by_wire : (w : ℕ) → has_node (channel_plane none) w a.x a.y ≡ true → ⊥
    by_wire zero k = cc
    by_wire (suc w) k = cc

no_roots : IsNetCount (channel_plane none) 0
no_roots = record {
  roots = [];
  are = record { least = λ k r at. no_some r at; every = λ a is. absurd (no_node a is); rising = λ j k q r lt at. no_some q at };
  is = refl;
}

-- with no channel cell there is no transistor, and no list of one
empty : (nets : Nets) → AreTransistors plan none nets []
empty nets = record { gated = record { each = λ m x y bad. no_node (record { wire = m; x = x; y = y }) bad.channel }; count = no_roots; each = λ t fet at. no_some fet at }

not_one : (nets : Nets) (fet : Fet) → AreTransistors plan none nets (fet ∷ []) → ⊥
not_one nets fet h = let same = net_count (channel_plane none) 1 0 h.count no_roots in omega (arith, same)
