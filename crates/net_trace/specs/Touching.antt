-- Nodes, and which of them touch.
use Rattle.std.specs.Prelude.{ℕ, ℤ, pos, ◌+ℤ◌, ◌==◌, ◌&&◌, ◌||◌, Bool, false, List, Option, None, Some, slice_get, zip, map, []}
use Rattle.std.specs.List.{list_any}
use Rattle.std.specs.Ordering.{int_eq}
use Rattle.layer_map.specs.Plan.{Plan}
use Rattle.mask_region.specs.declared.strips.Strip.{Strip}
use Rattle.mask_region.specs.Strips.{is_in, MaskLists}
use Rattle.net_trace.specs.declared.node.Node.{Node}

-- ---- what is traced

-- the cells of a cut, and the wires that it lists
pub record Cut : Type 0 where
  pub region : List Strip
  pub wires : List ℕ

-- the cells of each wire, the cuts, and the pairs of nodes that are joined
pub record Nets : Type 0 where
  pub wires : List (List Strip)
  pub cuts : List Cut
  pub joins : List (Node × Node)

-- the cuts with these regions and lists of wires
abbrev pub cuts_with : List (List Strip) → List (List ℕ) → List Cut
cuts_with regions lists = map (λ p. record { region = p.0; wires = p.1 }) (zip regions lists)

-- the cuts of a map, with their masks
abbrev pub cuts_of : Plan → MaskLists → List Cut
cuts_of plan masks = cuts_with masks.cuts (map (λ c. c.wires) plan.cuts)

-- the wires and cuts of a map with these masks, where nothing is joined
abbrev pub traced_nets : Plan → MaskLists → Nets
traced_nets plan masks = record { wires = masks.wires; cuts = cuts_of plan masks; joins = [] }

-- a plane with these wires, with no cuts and where nothing is joined
abbrev pub plane_of : List (List Strip) → Nets
plane_of regions = record { wires = regions; cuts = []; joins = [] }

-- ---- nodes

abbrev pub is_in_wire : Option (List Strip) → ℤ → ℤ → Bool
is_in_wire None x y = false
is_in_wire (Some region) x y = is_in region x y

-- whether the wire of that number has the cell
abbrev pub has_node : Nets → ℕ → ℤ → ℤ → Bool
has_node nets wire x y = is_in_wire (slice_get nets.wires wire) x y

-- whether it is a node: its wire has its cell
abbrev pub is_node : Nets → Node → Bool
is_node nets a = has_node nets a.wire a.x a.y

-- ---- touching

-- one number is the next of the other
abbrev pub is_step : ℤ → ℤ → Bool
is_step p q = int_eq q (p +ℤ pos 1) || int_eq p (q +ℤ pos 1)

-- the two cells share an edge
abbrev pub is_beside : ℤ → ℤ → ℤ → ℤ → Bool
is_beside x y i j = (int_eq y j && is_step x i) || (int_eq x i && is_step y j)

-- they are of one wire, and their cells share an edge
abbrev pub is_along : Node → Node → Bool
is_along a b = (a.wire == b.wire) && is_beside a.x a.y b.x b.y

abbrev pub is_listed : List ℕ → ℕ → Bool
is_listed wires wire = list_any (λ w. w == wire) wires

-- the cut lists both wires, and has the cell
abbrev pub is_cut_at : Node → Node → Cut → Bool
is_cut_at a b cut = (is_listed cut.wires a.wire && is_listed cut.wires b.wire) && is_in cut.region a.x a.y

-- they are of one cell, and a cut that has it lists both wires
abbrev pub is_through : List Cut → Node → Node → Bool
is_through cuts a b = (int_eq a.x b.x && int_eq a.y b.y) && list_any (is_cut_at a b) cuts

-- whether they are nodes, and touch along a wire or through a cut
abbrev pub touches : Nets → Node → Node → Bool
touches nets a b = (is_node nets a && is_node nets b) && (is_along a b || is_through nets.cuts a b)
