-- What the search round a point finds, and to what a label is bound.
use Rattle.std.specs.Prelude.{◌≡◌, ◌≢◌, ℕ, ◌<◌, true, false, List, Option, None, Some, slice_get, ◌==◌, if◌then◌else◌}
use Rattle.plane_geom.specs.declared.shapes.Point.{Point}
use Rattle.switch_net.specs.declared.NetId.{NetId}
use Rattle.cif_flatten.specs.declared.flat.Mark.{Mark}
use Rattle.layer_map.specs.Plan.{Plan}
use Rattle.link_classes.specs.Linked.{Linked}
use Rattle.net_trace.specs.declared.node.Node.{Node}
use Rattle.net_trace.specs.Touching.{Nets, has_node}
use Rattle.net_trace.specs.Nets.{is_link, IsNetNumber, node_at}
use Rattle.layout_extract.specs.declared.around.Near.{Near}
use Rattle.layout_extract.specs.declared.around.Near.TheVariants.{Nothing, One, Two}
use Rattle.layout_extract.specs.declared.bindings.Binding.{Binding}
use Rattle.layout_extract.specs.declared.bindings.Binding.TheVariants.{Deep, Unbound, Ambiguous, Bound}
use Rattle.layout_extract.specs.Labels.{label_wire, is_shallow, is_bound_at, IsAmbiguous}

-- ---- round a point

-- One of the first so many cells has a node of the wire, and it is of this net.
pub record HasNodeIn (nets : Nets) (wire : ℕ) (cells : List Point) (upto : ℕ) (cell : Point) (net : ℕ) : Type 0 where
  pub k : ℕ
  pub early : k < upto
  pub at : slice_get cells k ≡ Some cell
  pub number : IsNetNumber nets (node_at wire cell.x cell.y) net

-- None of the first so many cells has a node of the wire.
pub record HasNoNodeIn (nets : Nets) (wire : ℕ) (cells : List Point) (upto : ℕ) : Type 0 where
  pub none : (k : ℕ) (c : Point) → k < upto → slice_get cells k ≡ Some c → has_node nets wire c.x c.y ≡ false

-- Each of them that has a node has one of this net.
pub record AreOneNet (nets : Nets) (wire : ℕ) (cells : List Point) (upto : ℕ) (net : ℕ) : Type 0 where
  pub each : (k : ℕ) (c : Point) → k < upto → slice_get cells k ≡ Some c → has_node nets wire c.x c.y ≡ true → IsNetNumber nets (node_at wire c.x c.y) net

-- Two of them have nodes of two nets.
pub record AreTwoNets (nets : Nets) (wire : ℕ) (cells : List Point) (upto : ℕ) : Type 0 where
  pub c : Point
  pub d : Point
  pub m : ℕ
  pub n : ℕ
  pub one : HasNodeIn nets wire cells upto c m
  pub other : HasNodeIn nets wire cells upto d n
  pub apart : m ≢ n

-- what is found of the wire at the first so many of the cells
abbrev pub IsAround : Nets → ℕ → List Point → ℕ → Near → Type 0
IsAround nets wire cells upto Nothing = HasNoNodeIn nets wire cells upto
IsAround nets wire cells upto (One cell net) = HasNodeIn nets wire cells upto cell net.0 × AreOneNet nets wire cells upto net.0
IsAround nets wire cells upto Two = AreTwoNets nets wire cells upto

-- what is found with one cell more
abbrev pub more : Near → Point → Option NetId → Near
more near cell None = near
more Nothing cell (Some net) = One cell net
more (One first other) cell (Some net) = if other.0 == net.0 then One first other else Two
more Two cell (Some net) = Two

-- ---- of a label

-- The label is bound to this node, and the others to which it is bound touch it, or are linked to it by touching.
pub record IsBoundTo (nets : Nets) (plan : Plan) (m : Mark) (node : Node) : Type 0 where
  pub bound : is_bound_at nets plan m node ≡ true
  pub one : (a : Node) → is_bound_at nets plan m a ≡ true → Linked (is_link nets) a node

-- The label isn't deep, and has a wire.
pub record HasWire (nets : Nets) (plan : Plan) (m : Mark) : Type 0 where
  pub wire : ℕ
  pub is : label_wire nets plan m ≡ Some wire
  pub shallow : is_shallow m ≡ true

pub record HasNoWire (nets : Nets) (plan : Plan) (m : Mark) : Type 0 where
  pub none : label_wire nets plan m ≡ None
  pub shallow : is_shallow m ≡ true

abbrev pub IsBinding : Nets → Plan → Mark → Binding → Type 0
IsBinding nets plan m Deep = is_shallow m ≡ false
IsBinding nets plan m Unbound = HasNoWire nets plan m
IsBinding nets plan m Ambiguous = HasWire nets plan m × IsAmbiguous nets plan m
IsBinding nets plan m (Bound wire cell) = HasWire nets plan m × IsBoundTo nets plan m (node_at wire.0 cell.x cell.y)
