-- Nets that are joined by names, and their names.
use Rattle.std.specs.Prelude.{◌≡◌, ◌⊎◌, ◌↔◌, ℕ, ◌==◌, ◌&&◌, ◌||◌, Bool, true, List, ◌++◌, codes, Some, slice_get}
use Rattle.std.specs.List.{list_any}
use Rattle.std.specs.Str.{bytes_eq}
use Rattle.std.specs.Ordering.{nat_cmp, is_le}
use Rattle.std.specs.Cmp.Lexicographic.{slice_cmp}
use Rattle.std.specs.Fmt.{decimal}
use Rattle.cif_flatten.specs.declared.flat.Mark.{Mark}
use Rattle.layer_map.specs.Names.{is_among}
use Rattle.layer_map.specs.Plan.{Plan}
use Rattle.link_classes.specs.Numbering.{AreRoots, IsNumber, IsCount}
use Rattle.net_trace.specs.declared.node.Node.{Node}
use Rattle.net_trace.specs.Touching.{Nets, is_node, touches}
use Rattle.net_trace.specs.Nets.{node_cmp}
use Rattle.layout_extract.specs.declared.named.BoundName.{BoundName}
use Rattle.layout_extract.specs.Labels.{is_bound_at}

-- the nodes and cuts of a layout, its map and its labels
pub record Labelled : Type 0 where
  pub nets : Nets
  pub plan : Plan
  pub marks : List Mark

-- ---- joining

-- whether labels of these names join what they are bound to: they are one name, or two names of the high supply, or two
-- of the low supply
abbrev pub is_joining : Plan → List ℕ → List ℕ → Bool
is_joining plan s t = bytes_eq s t || ((is_among s plan.high && is_among t plan.high) || (is_among s plan.low && is_among t plan.low))

-- whether a label that is bound to the one and a label that is bound to the other join them
abbrev pub is_joined_by_name : Labelled → Node → Node → Bool
is_joined_by_name g a b = list_any (λ m. is_bound_at g.nets g.plan m a && list_any (λ n. is_bound_at g.nets g.plan n b && is_joining g.plan m.name n.name) g.marks) g.marks

-- whether they touch, or labels join them
abbrev pub is_net_link : Labelled → Node → Node → Bool
is_net_link g a b = touches g.nets a b || is_joined_by_name g a b

-- ---- nets: the classes of linked nodes

-- the least node of each net, in rising order
abbrev pub AreNamedRoots : Labelled → List Node → Type 0
AreNamedRoots g = AreRoots node_cmp (is_node g.nets) (is_net_link g)

-- The node lies in the net of this number.
abbrev pub IsNamedNumber : Labelled → Node → ℕ → Type 0
IsNamedNumber g = IsNumber node_cmp (is_node g.nets) (is_net_link g)

-- There are so many nets.
abbrev pub IsNamedCount : Labelled → ℕ → Type 0
IsNamedCount g = IsCount node_cmp (is_node g.nets) (is_net_link g)

-- ---- the names of a net

-- A label of that name is bound to a node of the net.
pub record IsBoundName (g : Labelled) (net : ℕ) (name : List ℕ) : Type 0 where
  pub k : ℕ
  pub mark : Mark
  pub at : slice_get g.marks k ≡ Some mark
  pub is : mark.name ≡ name
  pub node : Node
  pub bound : is_bound_at g.nets g.plan mark node ≡ true
  pub number : IsNamedNumber g node net

-- A name is bound to the net.
pub record IsLabelledNet (g : Labelled) (net : ℕ) : Type 0 where
  pub name : List ℕ
  pub bound : IsBoundName g net name

-- whether the list has this name with this net
abbrev pub is_listed_name : List BoundName → ℕ → List ℕ → Bool
is_listed_name list net name = list_any (λ b. b.net.0 == net && bytes_eq b.name name) list

-- The list has a name with a net exactly where the name is bound to the net.
pub record AreBoundNames (g : Labelled) (list : List BoundName) : Type 0 where
  pub exact : (net : ℕ) (name : List ℕ) → is_listed_name list net name ≡ true ↔ IsBoundName g net name

-- Of the names that are bound to the net, it is the first by bytes.
pub record IsLeastName (g : Labelled) (net : ℕ) (name : List ℕ) : Type 0 where
  pub bound : IsBoundName g net name
  pub least : (other : List ℕ) → IsBoundName g net other → is_le (slice_cmp nat_cmp name other) ≡ true

-- No name is bound to the net, and this is `#` and its number.
pub record IsNumberName (g : Labelled) (net : ℕ) (name : List ℕ) : Type 0 where
  pub none : IsLabelledNet g net → ⊥
  pub is : name ≡ codes "#" ++ decimal net

-- It is the name of the net: the first of its bound names, else `#` and its number.
abbrev pub IsNameOf : Labelled → ℕ → List ℕ → Type 0
IsNameOf g net name = IsLeastName g net name ⊎ IsNumberName g net name
