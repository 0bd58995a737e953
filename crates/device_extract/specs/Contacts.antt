-- The terminals of transistors as pairs, and how the list of transistors is made of them. No promise cites these words.
use Rattle.std.specs.Prelude.{◌≡◌, ℕ, ◌<◌, ◌⊎◌, ◌==◌, ◌&&◌, ℤ, pos, neg_ℤ, ◌+ℤ◌, ◌-ℤ◌, Bool, true, false, List, ◌++◌, length, Some, slice_get}
use Rattle.std.specs.List.{All, list_any}
use Rattle.switch_net.specs.declared.NetId.{NetId}
use Rattle.switch_net.specs.declared.fets.Fet.{Fet}
use Rattle.layer_map.specs.Plan.{Plan}
use Rattle.layer_map.specs.Plan as layers
use Rattle.mask_region.specs.declared.strips.Strip.{Strip}
use Rattle.mask_region.specs.Strips.{MaskLists, is_in}
use Rattle.net_trace.specs.declared.node.Node.{Node}
use Rattle.net_trace.specs.Touching.{Nets, has_node}
use Rattle.net_trace.specs.Nets.{node_at, IsNetNumber}
use Rattle.device_extract.specs.declared.sides.Side.{Side}
use Rattle.device_extract.specs.declared.terminals.Ends.{Ends}
use Rattle.device_extract.specs.declared.terminals.Ends.TheVariants.{Bare, One, Two, Crowded}
use Rattle.device_extract.specs.Transistors.{IsTerminalOf}

-- ---- sides

-- the strip, so far to the right and up
abbrev pub strip_shifted : ℤ → ℤ → Strip → Strip
strip_shifted right up s = record { y0 = s.y0 +ℤ up; y1 = s.y1 +ℤ up; x0 = s.x0 +ℤ right; x1 = s.x1 +ℤ right }

-- A step to one of the four cells beside a cell.
pub record IsStep (right up : ℤ) : Type 0 where
  pub one : ((up ≡ pos 0) × ((right ≡ pos 1) ⊎ (right ≡ neg_ℤ (pos 1)))) ⊎ ((right ≡ pos 0) × ((up ≡ pos 1) ⊎ (up ≡ neg_ℤ (pos 1))))

-- The side is one of the four of a line.
pub record IsSideOf (fets : List layers.Fet) (side : Side) : Type 0 where
  pub fet : layers.Fet
  pub at : slice_get fets side.line ≡ Some fet
  pub diff : side.diff.0 ≡ fet.diff
  pub step : IsStep side.right side.up

-- The side stands in the list.
pub record HasSide (sides : List Side) (line diff : ℕ) (right up : ℤ) : Type 0 where
  pub k : ℕ
  pub side : Side
  pub at : slice_get sides k ≡ Some side
  pub line_is : side.line ≡ line
  pub diff_is : side.diff.0 ≡ diff
  pub right_is : side.right ≡ right
  pub up_is : side.up ≡ up

-- The list has the four sides of each of the first n lines.
pub record AreSides (fets : List layers.Fet) (n : ℕ) (sides : List Side) : Type 0 where
  pub sound : All (IsSideOf fets) sides
  pub whole : (line : ℕ) (fet : layers.Fet) (right up : ℤ) → line < n → slice_get fets line ≡ Some fet → IsStep right up → HasSide sides line fet.diff right up

-- The cells are those of the side: the cells of its diff wire that lie so far from the line's channel cells.
pub record AreTouched (plane wires : Nets) (side : Side) (region : List Strip) : Type 0 where
  pub cells : (x y : ℤ) → is_in region x y ≡ (has_node plane side.line (x -ℤ side.right) (y -ℤ side.up) && has_node wires side.diff.0 x y)

-- ---- contacts

-- the list has the transistor with the net
abbrev pub has_contact : List (ℕ × NetId) → ℕ → ℕ → Bool
has_contact contacts t net = list_any (λ c. (c.0 == t) && (c.1.0 == net)) contacts

-- The node at the cell of the side is of this net, and the channel cell from which it lies so far is of this transistor.
pub record IsContactAt (plane nets : Nets) (side : Side) (x y : ℤ) (contact : ℕ × NetId) : Type 0 where
  pub cell : IsNetNumber plane (node_at side.line (x -ℤ side.right) (y -ℤ side.up)) contact.0
  pub number : IsNetNumber nets (node_at side.diff.0 x y) contact.1.0

pub record IsContact (plane nets : Nets) (side : Side) (contact : ℕ × NetId) : Type 0 where
  pub x : ℤ
  pub y : ℤ
  pub at : IsContactAt plane nets side x y contact

-- All contacts of the side were added.
pub record AreContactsAdded (plane nets : Nets) (side : Side) (old new : List (ℕ × NetId)) : Type 0 where
  pub more : List (ℕ × NetId)
  pub added : new ≡ old ++ more
  pub sound : All (IsContact plane nets side) more
  pub whole : (x y : ℤ) (t net : ℕ) → IsNetNumber plane (node_at side.line (x -ℤ side.right) (y -ℤ side.up)) t → IsNetNumber nets (node_at side.diff.0 x y) net → has_contact more t net ≡ true

-- The pairs are those of transistors and their terminals.
pub record AreContacts (plan : Plan) (masks : MaskLists) (nets : Nets) (contacts : List (ℕ × NetId)) : Type 0 where
  pub sound : All (λ c. IsTerminalOf plan masks nets c.0 c.1.0) contacts
  pub whole : (t net : ℕ) → IsTerminalOf plan masks nets t net → has_contact contacts t net ≡ true

-- ---- ends

-- The test holds of this net alone.
pub record HasOne (has : ℕ → Bool) (a : ℕ) : Type 0 where
  pub first : has a ≡ true
  pub only : (n : ℕ) → has n ≡ true → n ≡ a

-- The test holds of these two nets alone.
pub record HasTwo (has : ℕ → Bool) (a b : ℕ) : Type 0 where
  pub first : has a ≡ true
  pub second : has b ≡ true
  pub rising : a < b
  pub only : (n : ℕ) → has n ≡ true → (n ≡ a) ⊎ (n ≡ b)

-- The test holds of three nets or more.
pub record HasThree (has : ℕ → Bool) : Type 0 where
  pub a : ℕ
  pub b : ℕ
  pub c : ℕ
  pub first : has a ≡ true
  pub second : has b ≡ true
  pub third : has c ≡ true
  pub rising : a < b
  pub rising_on : b < c

-- The ends are the nets of which the test holds.
abbrev pub AreEnds : (ℕ → Bool) → Ends → Type 0
AreEnds has Bare = (n : ℕ) → has n ≡ true → ⊥
AreEnds has (One a) = HasOne has a.0
AreEnds has (Two a b) = HasTwo has a.0 b.0
AreEnds has Crowded = HasThree has

abbrev pub is_bare : Ends → Bool
is_bare Bare = true
is_bare _ = false

abbrev pub is_crowded : Ends → Bool
is_crowded Crowded = true
is_crowded _ = false

-- Each transistor has the ends that the pairs give it.
pub record AreEndsOf (contacts : List (ℕ × NetId)) (count : ℕ) (ends : List Ends) : Type 0 where
  pub each : length ends ≡ count
  pub at : (t : ℕ) (e : Ends) → slice_get ends t ≡ Some e → AreEnds (has_contact contacts t) e

-- ---- transistors

-- The ends are these two, where one alone is both.
abbrev pub IsPair : Ends → NetId → NetId → Type 0
IsPair (One a) p q = (p ≡ a) × (q ≡ a)
IsPair (Two a b) p q = (p ≡ a) × (q ≡ b)
IsPair _ p q = ⊥

pub record HasPair (ends : Ends) : Type 0 where
  pub a : NetId
  pub b : NetId
  pub is : IsPair ends a b

-- The gate wire of the node's line has a node at its cell.
pub record HasGate (plan : Plan) (nets : Nets) (root : Node) : Type 0 where
  pub fet : layers.Fet
  pub at : slice_get plan.fets root.wire ≡ Some fet
  pub has : has_node nets fet.gate root.x root.y ≡ true

-- The transistor with this least cell and these ends.
pub record IsFetAt (plan : Plan) (nets : Nets) (root : Node) (ends : Ends) (fet : Fet) : Type 0 where
  pub line : layers.Fet
  pub at : slice_get plan.fets root.wire ≡ Some line
  pub kind : line.kind ≡ fet.kind
  pub gate : IsNetNumber nets (node_at line.gate root.x root.y) fet.gate.0
  pub pair : IsPair ends fet.a fet.b

-- The transistors with the first n of these least cells and ends.
pub record AreFetsAt (plan : Plan) (nets : Nets) (roots : List Node) (ends : List Ends) (n : ℕ) (fets : List Fet) : Type 0 where
  pub each : length fets ≡ n
  pub at : (t : ℕ) (root : Node) (e : Ends) (fet : Fet) → slice_get roots t ≡ Some root → slice_get ends t ≡ Some e → slice_get fets t ≡ Some fet → IsFetAt plan nets root e fet
