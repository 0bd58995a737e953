-- Why a layout's transistors are not given.
use Rattle.std.specs.Prelude.{ℕ, ℤ, ◌<◌, List, length}
use Rattle.plane_geom.specs.declared.shapes.Point.{Point}
use Rattle.switch_net.specs.declared.fets.Fet.{Fet}
use Rattle.layer_map.specs.Plan.{Plan}
use Rattle.mask_region.specs.Strips.{MaskLists}
use Rattle.net_trace.specs.Touching.{Nets}
use Rattle.device_extract.specs.declared.refusal.DeviceRefusal.{DeviceRefusal}
use Rattle.device_extract.specs.declared.refusal.DeviceRefusal.TheVariants.{UngatedChannel, NoTerminal, ManyTerminals, TooManyFets, NoMemory}
use Rattle.device_extract.specs.Channels.{IsCellOf, IsLeastCellOf, AreGated, IsFirstUngated}
use Rattle.device_extract.specs.Transistors.{IsTerminalOf, AreTransistors}

-- It is a transistor, and it has no terminal.
pub record IsBare (plan : Plan) (masks : MaskLists) (nets : Nets) (t : ℕ) : Type 0 where
  pub line : ℕ
  pub x : ℤ
  pub y : ℤ
  pub cell : IsCellOf masks t line x y
  pub none : (net : ℕ) → IsTerminalOf plan masks nets t net → ⊥

-- It has three terminals or more.
pub record IsCrowded (plan : Plan) (masks : MaskLists) (nets : Nets) (t : ℕ) : Type 0 where
  pub a : ℕ
  pub b : ℕ
  pub c : ℕ
  pub first : IsTerminalOf plan masks nets t a
  pub second : IsTerminalOf plan masks nets t b
  pub third : IsTerminalOf plan masks nets t c
  pub rising : a < b
  pub rising_on : b < c

-- Each channel cell has a node of its gate wire. The cell is the least one of the first transistor with no terminal.
pub record IsFirstBare (plan : Plan) (masks : MaskLists) (nets : Nets) (cell : Point) : Type 0 where
  pub gated : AreGated plan masks
  pub t : ℕ
  pub is : IsBare plan masks nets t
  pub first : (s : ℕ) → s < t → IsBare plan masks nets s → ⊥
  pub least : IsLeastCellOf masks t cell

-- Each channel cell has a node of its gate wire, and each transistor a terminal. The cell is the least one of the first
-- transistor with three terminals or more.
pub record IsFirstCrowded (plan : Plan) (masks : MaskLists) (nets : Nets) (cell : Point) : Type 0 where
  pub gated : AreGated plan masks
  pub ended : (s : ℕ) → IsBare plan masks nets s → ⊥
  pub t : ℕ
  pub is : IsCrowded plan masks nets t
  pub first : (s : ℕ) → s < t → IsCrowded plan masks nets s → ⊥
  pub least : IsLeastCellOf masks t cell

-- There are more than 4,096 transistors.
pub record HasManyFets (plan : Plan) (masks : MaskLists) (nets : Nets) : Type 0 where
  pub fets : List Fet
  pub are : AreTransistors plan masks nets fets
  pub more : 4096 < length fets

-- The transistors are refused so. Out of memory may come at any time.
abbrev pub RefusesDevices : Plan → MaskLists → Nets → DeviceRefusal → Type 0
RefusesDevices plan masks nets (UngatedChannel cell) = IsFirstUngated plan masks cell
RefusesDevices plan masks nets (NoTerminal cell) = IsFirstBare plan masks nets cell
RefusesDevices plan masks nets (ManyTerminals cell) = IsFirstCrowded plan masks nets cell
RefusesDevices plan masks nets TooManyFets = HasManyFets plan masks nets
RefusesDevices plan masks nets NoMemory = Unit {0}
