-- Labels: the wires that they try, and the nodes to which they are bound.
use Rattle.std.specs.Prelude.{◌≡◌, ℕ, ◌≤◌, nat_lt, ℤ, pos, ◌-ℤ◌, ◌==◌, ◌&&◌, Bool, true, false, not, is_some, List, [], ◌∷◌, length, Option, None, Some, find, slice_get, count_by}
use Rattle.std.specs.List.{list_any, range_with_len}
use Rattle.std.specs.Ordering.{int_eq}
use Rattle.std.specs.Str.{bytes_eq}
use Rattle.plane_geom.specs.declared.shapes.Point.{Point}
use Rattle.cif_flatten.specs.declared.flat.Mark.{Mark}
use Rattle.layer_map.specs.Plan.{Plan, LabelWires}
use Rattle.link_classes.specs.Linked.{Linked}
use Rattle.net_trace.specs.declared.node.Node.{Node}
use Rattle.net_trace.specs.Touching.{Nets, has_node, is_node, touches}

-- ---- the wire of a label

-- the wires in the order of the map
abbrev pub all_wires : Plan → List ℕ
all_wires plan = range_with_len 0 (length plan.wires)

-- the wires of the `label` line if there is one, else these
abbrev pub listed_or : List ℕ → Option LabelWires → List ℕ
listed_or others None = others
listed_or others (Some line) = line.wires

-- the wires that a label tries: those that the `label` line of its layer lists; all wires where it has no layer, or its
-- layer has no line
abbrev pub tried_wires : Plan → Option (List ℕ) → List ℕ
tried_wires plan None = all_wires plan
tried_wires plan (Some layer) = listed_or (all_wires plan) (find (λ l. bytes_eq l.layer layer) plan.labels)

-- the four cells round a point
abbrev pub cells_round : Point → List Point
cells_round p = record { x = p.x -ℤ pos 1; y = p.y -ℤ pos 1 } ∷ record { x = p.x; y = p.y -ℤ pos 1 } ∷ record { x = p.x -ℤ pos 1; y = p.y } ∷ record { x = p.x; y = p.y } ∷ []

-- whether the cell is one of them
abbrev pub is_round : Point → ℤ → ℤ → Bool
is_round p x y = list_any (λ c. int_eq c.x x && int_eq c.y y) (cells_round p)

-- whether the wire has a node at one of them
abbrev pub is_near : Nets → Point → ℕ → Bool
is_near nets p wire = list_any (λ c. has_node nets wire c.x c.y) (cells_round p)

-- the first of the wires that the label tries that has a node near its point
abbrev pub label_wire : Nets → Plan → Mark → Option ℕ
label_wire nets plan m = find (is_near nets m.at) (tried_wires plan m.layer)

-- ---- where a label is bound

-- whether the label stands directly at the top, or in a symbol that the top calls: deeper labels are only counted
abbrev pub is_shallow : Mark → Bool
is_shallow m = nat_lt m.depth 2

abbrev pub is_wire : Option ℕ → ℕ → Bool
is_wire None wire = false
is_wire (Some w) wire = w == wire

-- whether the label is bound to the node: a node of the label's wire, at one of the four cells round its point
abbrev pub is_bound_at : Nets → Plan → Mark → Node → Bool
is_bound_at nets plan m a = (is_shallow m && is_wire (label_wire nets plan m) a.wire) && (is_round m.at a.x a.y && is_node nets a)

-- The nodes to which the label is bound lie in two or more pieces: two of them are not linked by touching.
pub record IsAmbiguous (nets : Nets) (plan : Plan) (m : Mark) : Type 0 where
  pub a : Node
  pub b : Node
  pub at_a : is_bound_at nets plan m a ≡ true
  pub at_b : is_bound_at nets plan m b ≡ true
  pub apart : Linked (touches nets) a b → ⊥

-- No label is ambiguous.
pub record AreClear (nets : Nets) (plan : Plan) (marks : List Mark) : Type 0 where
  pub none : (k : ℕ) (m : Mark) → slice_get marks k ≡ Some m → IsAmbiguous nets plan m → ⊥

-- An ambiguous label has this position, and none has a lesser one.
pub record IsFirstAmbiguous (nets : Nets) (plan : Plan) (marks : List Mark) (place : ℕ) : Type 0 where
  pub k : ℕ
  pub mark : Mark
  pub at : slice_get marks k ≡ Some mark
  pub is : mark.pos ≡ place
  pub two : IsAmbiguous nets plan mark
  pub first : (j : ℕ) (m : Mark) → slice_get marks j ≡ Some m → IsAmbiguous nets plan m → place ≤ m.pos

-- ---- how many labels are bound

-- those that have a wire
abbrev pub count_bound : Nets → Plan → List Mark → ℕ
count_bound nets plan marks = count_by (λ m. is_shallow m && is_some (label_wire nets plan m)) marks

-- those that have none
abbrev pub count_unbound : Nets → Plan → List Mark → ℕ
count_unbound nets plan marks = count_by (λ m. is_shallow m && not (is_some (label_wire nets plan m))) marks

-- those that stand deeper
abbrev pub count_deep : List Mark → ℕ
count_deep marks = count_by (λ m. not (is_shallow m)) marks
