-- Named nets: what a layout and a map give.
use Rattle.std.specs.Prelude.{◌≡◌, ℕ, List, length, Some, slice_get}
use Rattle.cif_reader.specs.File.{Contents}
use Rattle.cif_flatten.specs.declared.flat.Draw.{Draw}
use Rattle.cif_flatten.specs.declared.flat.Mark.{Mark}
use Rattle.cif_flatten.specs.Flat.{Lists}
use Rattle.cif_flatten.specs.Flattening.{IsFlattened, IsFirstFault}
use Rattle.layer_map.specs.Plan.{Plan}
use Rattle.mask_region.specs.Strips.{MaskLists}
use Rattle.mask_algebra.specs.Masks.{AreMasks, wire_formulas, cut_formulas, channel_formulas}
use Rattle.link_classes.specs.Linked.{Linked}
use Rattle.net_trace.specs.declared.node.Node.{Node}
use Rattle.net_trace.specs.Touching.{Nets, traced_nets}
use Rattle.net_trace.specs.Nets.{is_link, HasMoreNets}
use Rattle.layout_extract.specs.declared.refusal.LayoutRefusal.{LayoutRefusal}
use Rattle.layout_extract.specs.declared.refusal.LayoutRefusal.TheVariants.{Flat, TooManyNets, LabelAmbiguous, NoMemory}
use Rattle.layout_extract.specs.Labels.{AreClear, IsFirstAmbiguous, count_bound, count_unbound, count_deep}
use Rattle.layout_extract.specs.declared.named.BoundName.{BoundName}
use Rattle.layout_extract.specs.Names.{Labelled, is_net_link, IsNamedCount, IsNameOf, AreBoundNames}

-- traced nets, the masks of the layout, the names of the nets in the order of their numbers, the names that are bound, each
-- with its net, and how many labels are bound, are not bound, and stand too deep to be bound
pub record NamedNets : Type 0 where
  pub nets : Nets
  pub masks : MaskLists
  pub names : List (List ℕ)
  pub bound_names : List BoundName
  pub bound : ℕ
  pub unbound : ℕ
  pub deep : ℕ

-- The masks are those of the map's wires, cuts and channels on the layout.
pub record AreLayoutMasks (plan : Plan) (draws : List Draw) (masks : MaskLists) : Type 0 where
  pub wires : AreMasks draws (wire_formulas plan) masks.wires
  pub cuts : AreMasks draws (cut_formulas plan) masks.cuts
  pub channels : AreMasks draws (channel_formulas plan) masks.channels

-- The map has masks on the layout.
pub record HasLayoutMasks (plan : Plan) (draws : List Draw) : Type 0 where
  pub masks : MaskLists
  pub are : AreLayoutMasks plan draws masks

-- the nodes and cuts of the masks, with the labels
abbrev pub labelled_by : Plan → MaskLists → List Mark → Labelled
labelled_by plan masks marks = record { nets = traced_nets plan masks; plan = plan; marks = marks }

-- The traced nets have the nodes and cuts of the labelled layout, and link the same nodes.
pub record AreJoinedAs (g : Labelled) (nets : Nets) : Type 0 where
  pub wires : nets.wires ≡ g.nets.wires
  pub cuts : nets.cuts ≡ g.nets.cuts
  pub sound : (a b : Node) → Linked (is_link nets) a b → Linked (is_net_link g) a b
  pub whole : (a b : Node) → Linked (is_net_link g) a b → Linked (is_link nets) a b

-- The nets are named: one name for each, in the order of their numbers.
pub record AreNames (g : Labelled) (names : List (List ℕ)) : Type 0 where
  pub count : IsNamedCount g (length names)
  pub each : (net : ℕ) (name : List ℕ) → slice_get names net ≡ Some name → IsNameOf g net name

-- These are the named nets of the layout with these shapes and labels: it has no more than 8,192 pieces, no label of it
-- is ambiguous, and its nets are the classes of nodes that touch or that labels join.
pub record IsNamed (plan : Plan) (lists : Lists) (named : NamedNets) : Type 0 where
  pub masks : AreLayoutMasks plan lists.draws named.masks
  pub few : HasMoreNets (traced_nets plan named.masks) 8192 → ⊥
  pub clear : AreClear (traced_nets plan named.masks) plan lists.marks
  pub nets : AreJoinedAs (labelled_by plan named.masks lists.marks) named.nets
  pub names : AreNames (labelled_by plan named.masks lists.marks) named.names
  pub bound_names : AreBoundNames (labelled_by plan named.masks lists.marks) named.bound_names
  pub bound : named.bound ≡ count_bound (traced_nets plan named.masks) plan lists.marks
  pub unbound : named.unbound ≡ count_unbound (traced_nets plan named.masks) plan lists.marks
  pub deep : named.deep ≡ count_deep lists.marks

-- The layout has over 8,192 pieces.
pub record HasManyPieces (plan : Plan) (lists : Lists) : Type 0 where
  pub masks : MaskLists
  pub are : AreLayoutMasks plan lists.draws masks
  pub more : HasMoreNets (traced_nets plan masks) 8192

-- The layout has no more than 8,192 pieces, and this is the least position of an ambiguous label.
pub record HasAmbiguous (plan : Plan) (lists : Lists) (place : ℕ) : Type 0 where
  pub masks : MaskLists
  pub are : AreLayoutMasks plan lists.draws masks
  pub few : HasMoreNets (traced_nets plan masks) 8192 → ⊥
  pub first : IsFirstAmbiguous (traced_nets plan masks) plan lists.marks place

-- The nets of the layout are refused so. Want of memory may come at any time.
abbrev pub RefusesNaming : Plan → Lists → LayoutRefusal → Type 0
RefusesNaming plan lists (Flat refusal) = ⊥
RefusesNaming plan lists TooManyNets = HasManyPieces plan lists
RefusesNaming plan lists (LabelAmbiguous place) = HasAmbiguous plan lists place
RefusesNaming plan lists NoMemory = Unit {0}

-- ---- of a file

-- These are the named nets of the file.
pub record IsNamedFrom (file : Contents) (plan : Plan) (named : NamedNets) : Type 0 where
  pub lists : Lists
  pub flat : IsFlattened file lists
  pub is : IsNamed plan lists named

-- The file unfolds to a layout whose nets are refused so.
pub record RefusesUnfolded (file : Contents) (plan : Plan) (refusal : LayoutRefusal) : Type 0 where
  pub lists : Lists
  pub flat : IsFlattened file lists
  pub refused : RefusesNaming plan lists refusal

-- The file is refused so: it is not unfolded, or the nets of what it unfolds to are refused.
abbrev pub RefusesLayout : Contents → Plan → LayoutRefusal → Type 0
RefusesLayout file plan (Flat refusal) = IsFirstFault file refusal
RefusesLayout file plan TooManyNets = RefusesUnfolded file plan TooManyNets
RefusesLayout file plan (LabelAmbiguous place) = RefusesUnfolded file plan (LabelAmbiguous place)
RefusesLayout file plan NoMemory = Unit {0}
