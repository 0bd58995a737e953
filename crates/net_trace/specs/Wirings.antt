-- The strips of all wires in one list, and what the tracing keeps of them. No promise cites these words.
use Rattle.std.specs.Prelude.{◌≡◌, ℕ, ◌+◌, ◌*◌, ◌<◌, ◌==◌, ◌&&◌, ◌||◌, ◌⊎◌, ℤ, int_lt, nat_lt, Bool, true, List, [], ◌∷◌, ◌++◌, length, map, take, slice_get, slice_index, Some}
use Rattle.std.specs.List.{All, AllZip}
use Rattle.std.specs.Ordering.{int_eq}
use Rattle.std.specs.declared.cmp.Ordering.TheVariants.{Less}
use Rattle.link_classes.specs.Linked.{Linked}
use Rattle.link_classes.specs.Classes.{has_pair}
use Rattle.mask_region.specs.declared.strips.Strip.{Strip}
use Rattle.mask_region.specs.Strips.{is_in_strip, is_in, IsStrip, Follows, Banded}
use Rattle.net_trace.specs.declared.node.Node.{Node}
use Rattle.net_trace.specs.declared.wiring.Vertex.{Vertex}
use Rattle.net_trace.specs.Touching.{Cut, Nets, is_node, is_along, is_listed, touches}
use Rattle.net_trace.specs.Nets.{node_cmp, node_at, is_link}

-- ---- vertices: the strips of wires

-- the node lies in the strip
abbrev pub is_at : Vertex → Node → Bool
is_at v a = (v.wire == a.wire) && is_in_strip v.strip a.x a.y

-- the least node of the strip
abbrev pub corner : Vertex → Node
corner v = record { wire = v.wire; x = v.strip.x0; y = v.strip.y0 }

abbrev pub strips_of : ℕ → List Strip → List Vertex
strips_of wire strips = map (λ s. record { wire = wire; strip = s }) strips

-- the strips of all wires, where the first has this number
abbrev pub vertices_of : ℕ → List (List Strip) → List Vertex
vertices_of w [] = []
vertices_of w (r ∷ rs) = strips_of w r ++ vertices_of (w + 1) rs

-- the index of a wire's first strip
abbrev pub start_of : List (List Strip) → ℕ → ℕ
start_of wires wire = length (vertices_of 0 (take wire wires))

-- The list has the index of the first strip of each of the first n wires.
pub record AreStarts (wires : List (List Strip)) (starts : List ℕ) (n : ℕ) : Type 0 where
  pub each : length starts ≡ n
  pub at : (w : ℕ) → w < n → slice_index starts w ≡ start_of wires w

pub record AreAllBanded (wires : List (List Strip)) : Type 0 where
  pub each : (w : ℕ) (r : List Strip) → slice_get wires w ≡ Some r → Banded r

-- The vertex with this index has the node.
pub record IsVertexAt (vertices : List Vertex) (a : Node) (i : ℕ) : Type 0 where
  pub vertex : Vertex
  pub at : slice_get vertices i ≡ Some vertex
  pub has : is_at vertex a ≡ true

-- The second is of a later wire, or it follows the first on one wire.
abbrev pub IsBehind : Vertex → Vertex → Type 0
IsBehind u v = (u.wire < v.wire) ⊎ ((u.wire ≡ v.wire) × Follows u.strip v.strip)

-- Each is a strip, and of any two the later one lies behind the earlier.
pub record AreOrdered (vertices : List Vertex) : Type 0 where
  pub strip : (i : ℕ) (u : Vertex) → slice_get vertices i ≡ Some u → IsStrip u.strip
  pub behind : (i j : ℕ) (u v : Vertex) → i < j → slice_get vertices i ≡ Some u → slice_get vertices j ≡ Some v → IsBehind u v

-- ---- bands

-- some number is in both spans
abbrev pub is_meeting : ℤ → ℤ → ℤ → ℤ → Bool
is_meeting a b c d = int_lt a d && int_lt c b

-- the second strip lies on the first: a cell of the second is right above one of the first
abbrev pub is_below : Vertex → Vertex → Bool
is_below u v = (u.wire == v.wire) && (int_eq u.strip.y1 v.strip.y0 && is_meeting u.strip.x0 u.strip.x1 v.strip.x0 v.strip.x1)

-- no strip behind the second one lies on the first
abbrev pub is_done : Vertex → Vertex → Bool
is_done u v = nat_lt u.wire v.wire || ((u.wire == v.wire) && (int_lt u.strip.y1 v.strip.y0 || (int_eq u.strip.y1 v.strip.y0 && int_lt u.strip.x1 v.strip.x1)))

pub record IsBelowPair (vertices : List Vertex) (e : ℕ × ℕ) : Type 0 where
  pub lower : Vertex
  pub upper : Vertex
  pub first : slice_get vertices e.0 ≡ Some lower
  pub second : slice_get vertices e.1 ≡ Some upper
  pub below : is_below lower upper ≡ true

-- The pairs are those of strips of which the one lies on the other.
pub record AreBands (vertices : List Vertex) (pairs : List (ℕ × ℕ)) : Type 0 where
  pub sound : All (IsBelowPair vertices) pairs
  pub whole : (p q : ℕ) (u v : Vertex) → slice_get vertices p ≡ Some u → slice_get vertices q ≡ Some v → is_below u v ≡ true → has_pair pairs p q ≡ true

-- ---- pairs of strips that are linked

-- Their least nodes are linked by touching.
pub record IsSound (nets : Nets) (vertices : List Vertex) (e : ℕ × ℕ) : Type 0 where
  pub from : Vertex
  pub to : Vertex
  pub first : slice_get vertices e.0 ≡ Some from
  pub second : slice_get vertices e.1 ≡ Some to
  pub linked : Linked (touches nets) (corner from) (corner to)

-- the two of each pair have one value
abbrev pub AreShared : List (ℕ × ℕ) → (ℕ → ℕ) → Type 0
AreShared pairs value = All (λ p. value p.0 ≡ value p.1) pairs

-- Strips with nodes that touch have one value.
pub record IsSharedAlong (link : Node → Node → Bool) (vertices : List Vertex) (value : ℕ → ℕ) : Type 0 where
  pub kept : (a b : Node) (i j : ℕ) → IsVertexAt vertices a i → IsVertexAt vertices b j → link a b ≡ true → value i ≡ value j

-- they are nodes, and touch along a wire
abbrev pub is_along_wire : List (List Strip) → Node → Node → Bool
is_along_wire wires a b = let nets : Nets = record { wires = wires; cuts = []; joins = [] } in (is_node nets a && is_node nets b) && is_along a b

-- The pairs link exactly the strips that touching nodes link.
pub record AreEdges (nets : Nets) (vertices : List Vertex) (pairs : List (ℕ × ℕ)) : Type 0 where
  pub sound : All (IsSound nets vertices) pairs
  pub whole : (value : ℕ → ℕ) → AreShared pairs value → IsSharedAlong (touches nets) vertices value

-- ---- traced nets

-- The label of a strip is the number of its net, and the roots are the least nodes of the nets.
pub record IsTraced (nets : Nets) (label : List ℕ) (roots : List Node) : Type 0 where
  pub each : length label ≡ length (vertices_of 0 nets.wires)
  pub shared : IsSharedAlong (is_link nets) (vertices_of 0 nets.wires) (λ i. slice_index label i)
  pub reached : (i : ℕ) (u : Vertex) → slice_get (vertices_of 0 nets.wires) i ≡ Some u
      → (root : Node) × (slice_get roots (slice_index label i) ≡ Some root) × Linked (is_link nets) root (corner u) × (node_cmp (corner u) root ≡ Less → ⊥)
  pub own : (k : ℕ) (root : Node) → slice_get roots k ≡ Some root
      → (i : ℕ) × (u : Vertex) × (slice_get (vertices_of 0 nets.wires) i ≡ Some u) × (slice_index label i ≡ k) × (corner u ≡ root)
  pub rising : (j k : ℕ) (q r : Node) → j < k → slice_get roots j ≡ Some q → slice_get roots k ≡ Some r → node_cmp q r ≡ Less

-- ---- regions of nets

-- The regions, one for each net and wire, have the strips with that label among the first n, each a strip of that wire.
pub record AreParts (vertices : List Vertex) (label : List ℕ) (count wires n : ℕ) (regions : List (List Strip)) : Type 0 where
  pub each : length regions ≡ count * wires
  pub banded : AreAllBanded regions
  pub of : (e : ℕ) (r : List Strip) (k : ℕ) (s : Strip) → slice_get regions e ≡ Some r → slice_get r k ≡ Some s → (i : ℕ) × (v : Vertex) × (slice_get vertices i ≡ Some v) × (v.strip ≡ s)
  pub inside : (net wire : ℕ) (r : List Strip) (k : ℕ) (s : Strip) → net < count → wire < wires → slice_get regions (net * wires + wire) ≡ Some r → slice_get r k ≡ Some s
      → (i : ℕ) × (i < n) × (slice_get vertices i ≡ Some (record { wire = wire; strip = s })) × (slice_index label i ≡ net)
  pub whole : (i : ℕ) (v : Vertex) (r : List Strip) → i < n → slice_get vertices i ≡ Some v → slice_get regions (slice_index label i * wires + v.wire) ≡ Some r
      → (k : ℕ) × (slice_get r k ≡ Some v.strip)

-- ---- strips that a cut ties together

-- The pair is that of the strips of two wires at a cell of the cut.
pub record IsTie (wires : List (List Strip)) (region : List Strip) (first second : ℕ) (e : ℕ × ℕ) : Type 0 where
  pub x : ℤ
  pub y : ℤ
  pub lower : IsVertexAt (vertices_of 0 wires) (node_at first x y) e.0
  pub upper : IsVertexAt (vertices_of 0 wires) (node_at second x y) e.1
  pub through : is_in region x y ≡ true

-- At each cell of the region the strips of the two wires have one value.
pub record AreOneUnder (wires : List (List Strip)) (region : List Strip) (value : ℕ → ℕ) (first second : ℕ) : Type 0 where
  pub one : (x y : ℤ) (i j : ℕ) → is_in region x y ≡ true → IsVertexAt (vertices_of 0 wires) (node_at first x y) i → IsVertexAt (vertices_of 0 wires) (node_at second x y) j → value i ≡ value j

-- Pairs of the two wires were added, at cells of the region, which tie all strips that have a common cell of it.
pub record AreTiedBy (wires : List (List Strip)) (region : List Strip) (first second : ℕ) (old new : List (ℕ × ℕ)) : Type 0 where
  pub more : List (ℕ × ℕ)
  pub added : new ≡ old ++ more
  pub ties : All (IsTie wires region first second) more
  pub whole : (value : ℕ → ℕ) → IsSharedAlong (is_along_wire wires) (vertices_of 0 wires) value → AreShared more value → AreOneUnder wires region value first second

-- The pair is tied by the cut.
pub record IsTieOf (wires : List (List Strip)) (cut : Cut) (e : ℕ × ℕ) : Type 0 where
  pub from : ℕ
  pub to : ℕ
  pub from_listed : is_listed cut.wires from ≡ true
  pub to_listed : is_listed cut.wires to ≡ true
  pub tie : IsTie wires cut.region from to e

-- Pairs that the cut ties were added, which tie all strips that have a common cell of it.
pub record AreTied (wires : List (List Strip)) (cut : Cut) (old new : List (ℕ × ℕ)) : Type 0 where
  pub more : List (ℕ × ℕ)
  pub added : new ≡ old ++ more
  pub ties : All (IsTieOf wires cut) more
  pub whole : AreOrdered (vertices_of 0 wires) → (value : ℕ → ℕ) → IsSharedAlong (is_along_wire wires) (vertices_of 0 wires) value → AreShared more value
      → (from to : ℕ) → is_listed cut.wires from ≡ true → is_listed cut.wires to ≡ true → AreOneUnder wires cut.region value from to

-- ---- regions that are filled

-- So many regions, each with no cell.
pub record AreEmpty (count : ℕ) (regions : List (List Strip)) : Type 0 where
  pub each : length regions ≡ count
  pub none : (k : ℕ) (r : List Strip) → slice_get regions k ≡ Some r → r ≡ []

-- ---- lists that are read from others

-- The nodes are the least ones of the strips with the first n of these indices.
pub record AreCorners (vertices : List Vertex) (indices : List ℕ) (n : ℕ) (nodes : List Node) : Type 0 where
  pub each : length nodes ≡ n
  pub at : (k : ℕ) (v : Vertex) → k < n → slice_get vertices (slice_index indices k) ≡ Some v → slice_get nodes k ≡ Some (corner v)

-- The nodes are those with the first n of these indices.
pub record ArePicked (from : List Node) (indices : List ℕ) (n : ℕ) (nodes : List Node) : Type 0 where
  pub each : length nodes ≡ n
  pub at : (k : ℕ) → k < n → slice_get nodes k ≡ slice_get from (slice_index indices k)

-- Each of the first n labels has its new number.
pub record AreRenumbered (second label : List ℕ) (n : ℕ) (new : List ℕ) : Type 0 where
  pub each : length new ≡ n
  pub at : (k : ℕ) → k < n → slice_index new k ≡ slice_index second (slice_index label k)

-- The least nodes of the nets of the first n pairs were added.
pub record AreEndsOf (roots : List Node) (pairs : List (ℕ × ℕ)) (n : ℕ) (old new : List (Node × Node)) : Type 0 where
  pub ends : List (Node × Node)
  pub added : new ≡ old ++ ends
  pub at : AllZip (λ p e. (slice_get roots p.0 ≡ Some e.0) × (slice_get roots p.1 ≡ Some e.1)) (take n pairs) ends
