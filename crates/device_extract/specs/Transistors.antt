-- What a transistor is between: its gate and its terminals.
use Rattle.std.specs.Prelude.{◌≡◌, ℕ, ℤ, ◌≤◌, ◌⊎◌, true, List, length, Some, slice_get}
use Rattle.switch_net.specs.declared.Kind.{Kind}
use Rattle.switch_net.specs.declared.fets.Fet.{Fet}
use Rattle.layer_map.specs.Plan.{Plan}
use Rattle.layer_map.specs.Plan as layers
use Rattle.mask_region.specs.Strips.{MaskLists}
use Rattle.net_trace.specs.Touching.{Nets, is_beside}
use Rattle.net_trace.specs.Nets.{node_at, IsNetNumber, IsNetCount}
use Rattle.device_extract.specs.Channels.{channel_plane, IsCellOf, AreGated}

-- Transistors of this line are of this kind.
pub record IsKindOf (plan : Plan) (masks : MaskLists) (t : ℕ) (kind : Kind) : Type 0 where
  pub line : ℕ
  pub x : ℤ
  pub y : ℤ
  pub fet : layers.Fet
  pub at : slice_get plan.fets line ≡ Some fet
  pub cell : IsCellOf masks t line x y
  pub is : fet.kind ≡ kind

-- The transistor's gate: the net of the gate wire on one of its cells.
pub record IsGateOf (plan : Plan) (masks : MaskLists) (nets : Nets) (t net : ℕ) : Type 0 where
  pub line : ℕ
  pub x : ℤ
  pub y : ℤ
  pub fet : layers.Fet
  pub at : slice_get plan.fets line ≡ Some fet
  pub cell : IsCellOf masks t line x y
  pub number : IsNetNumber nets (node_at fet.gate x y) net

-- A terminal of the transistor: a net of the diff wire on a cell (i, j) that shares an edge with one of its cells.
pub record IsTerminalOf (plan : Plan) (masks : MaskLists) (nets : Nets) (t net : ℕ) : Type 0 where
  pub line : ℕ
  pub x : ℤ
  pub y : ℤ
  pub i : ℤ
  pub j : ℤ
  pub fet : layers.Fet
  pub at : slice_get plan.fets line ≡ Some fet
  pub cell : IsCellOf masks t line x y
  pub beside : is_beside x y i j ≡ true
  pub number : IsNetNumber nets (node_at fet.diff i j) net

-- This is the transistor with that number: its kind, its gate and its one or two terminals, the smaller net first. One net
-- alone is both terminals.
pub record IsTransistor (plan : Plan) (masks : MaskLists) (nets : Nets) (t : ℕ) (fet : Fet) : Type 0 where
  pub kind : IsKindOf plan masks t fet.kind
  pub gate : IsGateOf plan masks nets t fet.gate.0
  pub a : IsTerminalOf plan masks nets t fet.a.0
  pub b : IsTerminalOf plan masks nets t fet.b.0
  pub only : (net : ℕ) → IsTerminalOf plan masks nets t net → (net ≡ fet.a.0) ⊎ (net ≡ fet.b.0)
  pub order : fet.a.0 ≤ fet.b.0

-- These are the transistors of the layout, in their order: each channel cell has a node of its gate wire, and each
-- transistor has one or two terminals.
pub record AreTransistors (plan : Plan) (masks : MaskLists) (nets : Nets) (fets : List Fet) : Type 0 where
  pub gated : AreGated plan masks
  pub count : IsNetCount (channel_plane masks) (length fets)
  pub each : (t : ℕ) (fet : Fet) → slice_get fets t ≡ Some fet → IsTransistor plan masks nets t fet
