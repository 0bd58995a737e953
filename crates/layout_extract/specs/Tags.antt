-- Labels that are bound, as the steps of naming keep them.
use Rattle.std.specs.Prelude.{◌≡◌, ℕ, ◌+◌, ◌<◌, ◌≤◌, nat_le, Bool, true, false, ◌&&◌, List, ◌++◌, codes, Option, None, Some, slice_get, length, map, filter, if◌then◌else◌}
use Rattle.std.specs.List.{AllZip, All, Contains}
use Rattle.std.specs.declared.cmp.Ordering.{Ordering}
use Rattle.std.specs.Ordering.{nat_cmp, is_le, is_lt}
use Rattle.std.specs.Cmp.Lexicographic.{slice_cmp}
use Rattle.std.specs.Str.{bytes_eq}
use Rattle.std.specs.Fmt.{decimal}
use Rattle.plane_geom.specs.declared.shapes.Point.{Point}
use Rattle.switch_net.specs.declared.NetId.{NetId}
use Rattle.cif_flatten.specs.declared.flat.Mark.{Mark}
use Rattle.layer_map.specs.declared.map.WireId.{WireId}
use Rattle.layer_map.specs.Names.{is_among}
use Rattle.layer_map.specs.Plan.{Plan}
use Rattle.link_classes.specs.Linked.{Linked}
use Rattle.link_classes.specs.Classes.{has_pair}
use Rattle.net_trace.specs.Touching.{Nets, has_node}
use Rattle.net_trace.specs.Nets.{IsNetNumber, IsNetCount, IsJoinedBy, node_at}
use Rattle.layout_extract.specs.declared.bindings.Binding.{Binding}
use Rattle.layout_extract.specs.declared.bindings.Binding.TheVariants.{Deep, Unbound, Ambiguous, Bound}
use Rattle.layout_extract.specs.declared.tags.Spot.{Spot}
use Rattle.layout_extract.specs.declared.tags.Tag.{Tag}
use Rattle.layout_extract.specs.declared.named.BoundName.{BoundName}
use Rattle.layout_extract.specs.Names.{is_joining}

-- ---- bindings

abbrev pub is_deep : Binding → Bool
is_deep Deep = true
is_deep _ = false

abbrev pub is_unbound : Binding → Bool
is_unbound Unbound = true
is_unbound _ = false

abbrev pub is_bound : Binding → Bool
is_bound Ambiguous = true
is_bound (Bound wire cell) = true
is_bound _ = false

-- None of the first so many is ambiguous.
pub record HasNoAmbiguous (bindings : List Binding) (upto : ℕ) : Type 0 where
  pub none : (k : ℕ) → k < upto → slice_get bindings k ≡ Some Ambiguous → ⊥

-- Of the first so many, an ambiguous one has this position, and none has a lesser one.
pub record HasAmbiguousAt (marks : List Mark) (bindings : List Binding) (upto place : ℕ) : Type 0 where
  pub k : ℕ
  pub mark : Mark
  pub early : k < upto
  pub at : slice_get marks k ≡ Some mark
  pub is : mark.pos ≡ place
  pub two : slice_get bindings k ≡ Some Ambiguous
  pub first : (j : ℕ) (m : Mark) → j < upto → slice_get marks j ≡ Some m → slice_get bindings j ≡ Some Ambiguous → place ≤ m.pos

-- the first position, with one more binding at a position
abbrev pub first_with : Option ℕ → Binding → ℕ → Option ℕ
first_with None Ambiguous place = Some place
first_with (Some first) Ambiguous place = if nat_le first place then Some first else Some place
first_with first _ place = first

-- ---- spots

-- It is the spot of one of the first so many labels.
pub record IsSpotOf (marks : List Mark) (bindings : List Binding) (upto : ℕ) (s : Spot) : Type 0 where
  pub k : ℕ
  pub mark : Mark
  pub early : k < upto
  pub at : slice_get marks k ≡ Some mark
  pub is : slice_get bindings k ≡ Some (Bound s.wire s.cell)
  pub name : mark.name ≡ s.name.now

-- One of the spots has this name, wire and cell.
pub record HasSpot (spots : List Spot) (name : List ℕ) (wire : WireId) (cell : Point) : Type 0 where
  pub j : ℕ
  pub spot : Spot
  pub at : slice_get spots j ≡ Some spot
  pub name_is : spot.name.now ≡ name
  pub wire_is : spot.wire ≡ wire
  pub cell_is : spot.cell ≡ cell

-- The spots are those of the first so many labels.
pub record AreSpotsOf (marks : List Mark) (bindings : List Binding) (upto : ℕ) (spots : List Spot) : Type 0 where
  pub each : (j : ℕ) (s : Spot) → slice_get spots j ≡ Some s → IsSpotOf marks bindings upto s
  pub all : (k : ℕ) (m : Mark) (wire : WireId) (cell : Point) → k < upto → slice_get marks k ≡ Some m → slice_get bindings k ≡ Some (Bound wire cell) → HasSpot spots m.name wire cell

-- ---- tags

-- The spot has a node.
abbrev pub HasNode : Nets → Spot → Type 0
HasNode nets s = has_node nets s.wire.0 s.cell.x s.cell.y ≡ true

-- The tag has the spot's name, and the number of its net.
pub record IsTagOf (nets : Nets) (s : Spot) (t : Tag) : Type 0 where
  pub name : t.name.now ≡ s.name.now
  pub number : IsNetNumber nets (node_at s.wire.0 s.cell.x s.cell.y) t.net.0

-- ---- pairs of nets that are joined

abbrev pub numbers_of : List (NetId × NetId) → List (ℕ × ℕ)
numbers_of pairs = map (λ p. (p.0.0, p.1.0)) pairs

-- Two of the tags have these nets, and names that pass the test.
pub record IsPairOf (test : List ℕ → List ℕ → Bool) (tags : List Tag) (p : NetId × NetId) : Type 0 where
  pub j : ℕ
  pub k : ℕ
  pub s : Tag
  pub t : Tag
  pub at_j : slice_get tags j ≡ Some s
  pub at_k : slice_get tags k ≡ Some t
  pub one : p.0 ≡ s.net
  pub other : p.1 ≡ t.net
  pub passes : test s.name.now t.name.now ≡ true

-- The pairs join what the test wants to be joined, and nothing else.
pub record AreJoins (test : List ℕ → List ℕ → Bool) (tags : List Tag) (pairs : List (NetId × NetId)) : Type 0 where
  pub sound : All (IsPairOf test tags) pairs
  pub whole : (j k : ℕ) (s t : Tag) → slice_get tags j ≡ Some s → slice_get tags k ≡ Some t → test s.name.now t.name.now ≡ true
      → Linked (has_pair (numbers_of pairs)) s.net.0 t.net.0

-- both names are among these
abbrev pub are_among : List (List ℕ) → List ℕ → List ℕ → Bool
are_among names s t = is_among s names && is_among t names

-- Each pair is of two of the nets, and the first so many nets are linked by pairs.
pub record AreChained (nets : List NetId) (upto : ℕ) (pairs : List (NetId × NetId)) : Type 0 where
  pub sound : All (λ p. Contains nets p.0 × Contains nets p.1) pairs
  pub whole : (j k : ℕ) (m n : NetId) → j < upto → k < upto → slice_get nets j ≡ Some m → slice_get nets k ≡ Some n → Linked (has_pair (numbers_of pairs)) m.0 n.0

-- the nets of the tags that have one of these names
abbrev pub nets_among : List (List ℕ) → List Tag → List NetId
nets_among names tags = map (λ (t : Tag). t.net) (filter (λ (t : Tag). is_among t.name.now names) tags)

-- the order of names
abbrev pub name_order : Tag → Tag → Ordering
name_order s t = slice_cmp nat_cmp s.name.now t.name.now

-- Each pair is of two tags of one name. Of the first so many tags, each two that follow each other and have one name are
-- linked by pairs.
pub record AreAdjacent (tags : List Tag) (upto : ℕ) (pairs : List (NetId × NetId)) : Type 0 where
  pub sound : All (IsPairOf bytes_eq tags) pairs
  pub whole : (k : ℕ) (s t : Tag) → k + 1 < upto → slice_get tags k ≡ Some s → slice_get tags (k + 1) ≡ Some t → s.name.now ≡ t.name.now → Linked (has_pair (numbers_of pairs)) s.net.0 t.net.0

-- The nets are joined where labels of joining names are bound.
pub record AreJoinedAt (plan : Plan) (spots : List Spot) (nets new : Nets) : Type 0 where
  pub tags : List Tag
  pub are : AllZip (IsTagOf nets) spots tags
  pub pairs : List (NetId × NetId)
  pub joins : AreJoins (is_joining plan) tags pairs
  pub by : IsJoinedBy nets (numbers_of pairs) new

-- ---- names

-- the one of two names that comes first by bytes, and the second where there is no first
abbrev pub lesser_name : Option (List ℕ) → List ℕ → List ℕ
lesser_name None name = name
lesser_name (Some first) name = if is_lt (slice_cmp nat_cmp name first) then name else first

-- No tag of the first so many is of this net.
pub record HasNoName (tags : List Tag) (upto net : ℕ) : Type 0 where
  pub none : (j : ℕ) (t : Tag) → j < upto → slice_get tags j ≡ Some t → t.net.0 ≡ net → ⊥

-- It is the least name of those of this net.
pub record HasLeastName (tags : List Tag) (upto net : ℕ) (name : List ℕ) : Type 0 where
  pub k : ℕ
  pub tag : Tag
  pub early : k < upto
  pub at : slice_get tags k ≡ Some tag
  pub is : tag.name.now ≡ name
  pub of_net : tag.net.0 ≡ net
  pub least : (j : ℕ) (t : Tag) → j < upto → slice_get tags j ≡ Some t → t.net.0 ≡ net → is_le (slice_cmp nat_cmp name t.name.now) ≡ true

abbrev pub IsLeast : List Tag → ℕ → ℕ → Option (List ℕ) → Type 0
IsLeast tags upto net None = HasNoName tags upto net
IsLeast tags upto net (Some name) = HasLeastName tags upto net name

-- the name, or `#` and the number where there is none
abbrev pub name_or : ℕ → Option (List ℕ) → List ℕ
name_or net None = codes "#" ++ decimal net
name_or net (Some name) = name

-- The net is called so by these tags.
pub record IsNameBy (tags : List Tag) (net : ℕ) (name : List ℕ) : Type 0 where
  pub first : Option (List ℕ)
  pub least : IsLeast tags (length tags) net first
  pub is : name ≡ name_or net first

-- It is the tag's name with its net.
pub record IsKept (t : Tag) (b : BoundName) : Type 0 where
  pub net : b.net ≡ t.net
  pub name : b.name ≡ t.name.now

-- One name for each net, by what is bound at the spots, and all names that are bound there.
pub record AreNamesAt (spots : List Spot) (nets : Nets) (names : List (List ℕ)) (bound : List BoundName) : Type 0 where
  pub tags : List Tag
  pub are : AllZip (IsTagOf nets) spots tags
  pub count : IsNetCount nets (length names)
  pub each : (net : ℕ) (name : List ℕ) → slice_get names net ≡ Some name → IsNameBy tags net name
  pub kept : AllZip IsKept tags bound
