-- Nets: the classes of linked nodes, and their numbers.
use Rattle.std.specs.Prelude.{◌≡◌, ℕ, ◌<◌, ◌+◌, ◌*◌, ◌==◌, ◌&&◌, ◌||◌, Bool, true, List, ◌++◌, length, ℤ, Some, slice_get}
use Rattle.std.specs.List.{list_any, AllZip}
use Rattle.std.specs.Ordering.{int_eq, int_cmp, nat_cmp}
use Rattle.std.specs.declared.cmp.Ordering.{Ordering}
use Rattle.std.specs.Ordering.{ordering_then}
use Rattle.mask_region.specs.declared.strips.Strip.{Strip}
use Rattle.mask_region.specs.Strips.{is_in}
use Rattle.link_classes.specs.Numbering.{AreRoots, IsNumber, IsCount}
use Rattle.net_trace.specs.declared.node.Node.{Node}
use Rattle.net_trace.specs.Touching.{Nets, is_node, touches}

-- the order of nodes: by wire, then by y, then by x
abbrev pub node_cmp : Node → Node → Ordering
node_cmp a b = ordering_then (nat_cmp a.wire b.wire) (ordering_then (int_cmp a.y b.y) (int_cmp a.x b.x))

abbrev pub is_same : Node → Node → Bool
is_same a b = (a.wire == b.wire) && (int_eq a.x b.x && int_eq a.y b.y)

-- the two nodes are one of the pairs
abbrev pub is_joined : List (Node × Node) → Node → Node → Bool
is_joined joins a b = list_any (λ j. is_same a j.0 && is_same b j.1) joins

-- whether they are nodes, and touch or are joined
abbrev pub is_link : Nets → Node → Node → Bool
is_link nets a b = touches nets a b || ((is_node nets a && is_node nets b) && is_joined nets.joins a b)

-- the least node of each net, in rising order
abbrev pub AreNetRoots : Nets → List Node → Type 0
AreNetRoots nets = AreRoots node_cmp (is_node nets) (is_link nets)

-- The node lies in the net of this number.
abbrev pub IsNetNumber : Nets → Node → ℕ → Type 0
IsNetNumber nets = IsNumber node_cmp (is_node nets) (is_link nets)

-- There are so many nets.
abbrev pub IsNetCount : Nets → ℕ → Type 0
IsNetCount nets = IsCount node_cmp (is_node nets) (is_link nets)

-- There are more nets.
pub record HasMoreNets (nets : Nets) (most : ℕ) : Type 0 where
  pub count : ℕ
  pub is : IsNetCount nets count
  pub more : most < count

-- the node of that wire at the cell
abbrev pub node_at : ℕ → ℤ → ℤ → Node
node_at wire x y = record { wire = wire; x = x; y = y }

-- The region has exactly the cells of that net on that wire.
pub record IsRegionOf (nets : Nets) (net wire : ℕ) (region : List Strip) : Type 0 where
  pub inside : (x y : ℤ) → is_in region x y ≡ true → IsNetNumber nets (node_at wire x y) net
  pub whole : (x y : ℤ) → IsNetNumber nets (node_at wire x y) net → is_in region x y ≡ true

-- One region for each net and wire: those of net 0 in the order of the wires, then those of net 1, and so on.
pub record AreRegionsOf (nets : Nets) (regions : List (List Strip)) : Type 0 where
  pub count : ℕ
  pub is_count : IsNetCount nets count
  pub each : length regions ≡ count * length nets.wires
  pub region : (net wire : ℕ) (r : List Strip) → net < count → wire < length nets.wires → slice_get regions (net * length nets.wires + wire) ≡ Some r → IsRegionOf nets net wire r

-- ---- joining

-- The nets are those before, and the two nets of each pair are joined, at their least nodes.
pub record IsJoinedBy (nets : Nets) (pairs : List (ℕ × ℕ)) (new : Nets) : Type 0 where
  pub roots : List Node
  pub are : AreNetRoots nets roots
  pub ends : List (Node × Node)
  pub at : AllZip (λ p e. (slice_get roots p.0 ≡ Some e.0) × (slice_get roots p.1 ≡ Some e.1)) pairs ends
  pub wires : new.wires ≡ nets.wires
  pub cuts : new.cuts ≡ nets.cuts
  pub joins : new.joins ≡ nets.joins ++ ends
