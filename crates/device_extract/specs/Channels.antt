-- Channel cells, and the transistors that they are.
use Rattle.std.specs.Prelude.{◌≡◌, ℕ, ℤ, Bool, true, false, List, Some, slice_get}
use Rattle.std.specs.declared.cmp.Ordering.TheVariants.{Less}
use Rattle.plane_geom.specs.declared.shapes.Point.{Point}
use Rattle.layer_map.specs.Plan.{Plan}
use Rattle.layer_map.specs.Plan as layers
use Rattle.mask_region.specs.declared.strips.Strip.{Strip}
use Rattle.mask_region.specs.Strips.{MaskLists, is_in}
use Rattle.net_trace.specs.Touching.{Nets, plane_of, has_node}
use Rattle.net_trace.specs.Nets.{node_cmp, node_at, IsNetNumber}

-- the channels as a plane of their own: one wire for each line of transistors
abbrev pub channel_plane : MaskLists → Nets
channel_plane masks = plane_of masks.channels

-- the wires as a plane, where nothing links two of them
abbrev pub wire_plane : MaskLists → Nets
wire_plane masks = plane_of masks.wires

-- whether it is a channel cell of the line
abbrev pub is_channel : MaskLists → ℕ → ℤ → ℤ → Bool
is_channel masks line x y = has_node (channel_plane masks) line x y

-- A transistor is a class of channel cells of one line that are linked by shared edges. Transistors are numbered from 0 by
-- their least cells, in the order of line, y and x. The cell of the line is one of this transistor's.
abbrev pub IsCellOf : MaskLists → ℕ → ℕ → ℤ → ℤ → Type 0
IsCellOf masks t line x y = IsNetNumber (channel_plane masks) (node_at line x y) t

-- The cell is the least one of the transistor.
pub record IsLeastCellOf (masks : MaskLists) (t : ℕ) (cell : Point) : Type 0 where
  pub line : ℕ
  pub of : IsCellOf masks t line cell.x cell.y
  pub least : (m : ℕ) (x y : ℤ) → IsCellOf masks t m x y → node_cmp (node_at m x y) (node_at line cell.x cell.y) ≡ Less → ⊥

-- The cell is the least one of the region, in the order of y and x.
pub record IsLeastIn (region : List Strip) (cell : Point) : Type 0 where
  pub has : is_in region cell.x cell.y ≡ true
  pub least : (w : ℕ) (x y : ℤ) → is_in region x y ≡ true → node_cmp (node_at w x y) (node_at w cell.x cell.y) ≡ Less → ⊥

-- ---- gates

-- The channel cell of the line has no node of the line's gate wire.
pub record IsUngated (plan : Plan) (masks : MaskLists) (line : ℕ) (x y : ℤ) : Type 0 where
  pub fet : layers.Fet
  pub at : slice_get plan.fets line ≡ Some fet
  pub channel : is_channel masks line x y ≡ true
  pub bare : has_node (wire_plane masks) fet.gate x y ≡ false

-- Each channel cell has a node of its line's gate wire.
pub record AreGated (plan : Plan) (masks : MaskLists) : Type 0 where
  pub each : (line : ℕ) (x y : ℤ) → IsUngated plan masks line x y → ⊥

-- The cell is the first ungated one, in the order of line, y and x.
pub record IsFirstUngated (plan : Plan) (masks : MaskLists) (cell : Point) : Type 0 where
  pub line : ℕ
  pub is : IsUngated plan masks line cell.x cell.y
  pub first : (m : ℕ) (x y : ℤ) → IsUngated plan masks m x y → node_cmp (node_at m x y) (node_at line cell.x cell.y) ≡ Less → ⊥
