-- Worked instances of the definitions: values that are computed, relations that hold, and relations that are refused.
use Rattle.std.proofs.Common.{◌≡◌, ℕ, zero, suc, ◌⊎◌, ◌&&◌, ◌||◌, Bool, true, false, List, [], ◌∷◌, ◌++◌, codes, Option, Some, None, refl, sym, ap, ◌∙◌, arith, inl, inr}
use Rattle.std.specs.Prelude.{ℤ, pos, negsuc, int_lt}
use Rattle.std.specs.Fmt.{decimal}
use Rattle.std.proofs.lemmas.Bool.{and_parts}
use Rattle.std.proofs.lemmas.Int.{ints}
use Rattle.plane_geom.specs.declared.shapes.Point.{Point}
use Rattle.cif_flatten.specs.declared.flat.Mark.{Mark}
use Rattle.layer_map.specs.Truth.{on}
use Rattle.layer_map.specs.Plan.{Plan, Wire}
use Rattle.link_classes.proofs.Chains.{linked_kept}
use Rattle.mask_region.specs.declared.strips.Strip.{Strip}
use Rattle.mask_region.specs.Strips.{is_in_strip}
use Rattle.net_trace.specs.declared.node.Node.{Node}
use Rattle.net_trace.specs.Touching.{Nets, has_node, is_node, is_along, is_through, touches}
use Rattle.net_trace.specs.Nets.{node_at}
use Rattle.mask_region.proofs.Within.{or_cases}
use Rattle.layout_extract.specs.Labels.{tried_wires, is_round, label_wire, is_shallow, is_bound_at, IsAmbiguous, count_bound, count_unbound, count_deep}
use Rattle.layout_extract.specs.Names.{Labelled, is_joining, is_joined_by_name, is_net_link, IsBoundName, IsLeastName, IsNumberName}

impossible : {P : Type 0} → true ≡ false → P
impossible e = let none : ⊥ = cc in absurd none

strip : ℕ → ℕ → ℕ → ℕ → Strip
strip x0 y0 x1 y1 = record { y0 = pos y0; y1 = pos y1; x0 = pos x0; x1 = pos x1 }

point : ℕ → ℕ → Point
point x y = record { x = pos x; y = pos y }

node : ℕ → ℕ → ℕ → Node
node wire x y = node_at wire (pos x) (pos y)

-- three wires; labels on CMF try the third and then the second, labels on CPG the first alone
a_wire : Wire
a_wire = record { name = codes "w"; formula = on (codes "A") }

plan : Plan
plan = record {
  wires = a_wire ∷ a_wire ∷ a_wire ∷ [];
  cuts = [];
  fets = [];
  labels = record { layer = codes "CMF"; wires = 2 ∷ 1 ∷ [] } ∷ record { layer = codes "CPG"; wires = 0 ∷ [] } ∷ [];
  high = codes "Vdd" ∷ codes "Vcc" ∷ [];
  low = codes "GND" ∷ codes "Vss" ∷ [];
}

-- ---- the wires that a label tries

listed_wires : tried_wires plan (Some (codes "CMF")) ≡ 2 ∷ 1 ∷ []
unfolding plan
listed_wires = refl

no_line : tried_wires plan (Some (codes "CAA")) ≡ 0 ∷ 1 ∷ 2 ∷ []
unfolding plan
no_line = refl

no_layer : tried_wires plan None ≡ 0 ∷ 1 ∷ 2 ∷ []
unfolding plan
no_layer = refl

-- ---- the cells round a point

below_left : is_round (point 2 1) (pos 1) (pos 0) ≡ true
unfolding point
below_left = refl

above_right : is_round (point 2 1) (pos 2) (pos 1) ≡ true
unfolding point
above_right = refl

further_right : is_round (point 2 1) (pos 3) (pos 1) ≡ false
unfolding point
further_right = refl

round_0 : is_round (point 0 0) (negsuc 0) (negsuc 0) ≡ true
unfolding point
round_0 = refl

-- ---- the wire of a label

-- the first wire to the left of the line x = 2, the second to the right of it, and the third far off
nets : Nets
nets = record { wires = (strip 0 0 2 2 ∷ []) ∷ (strip 2 0 4 2 ∷ []) ∷ (strip 10 0 12 2 ∷ []) ∷ []; cuts = []; joins = [] }

label : List ℕ → Point → Option (List ℕ) → ℕ → Mark
label name at layer depth = record { name = name; at = at; layer = layer; depth = depth; pos = 0 }

-- one label between two wires
by_map_order : label_wire nets plan (label (codes "A") (point 2 1) None 0) ≡ Some 0
unfolding nets plan strip label point a_wire
by_map_order = refl

by_the_line : label_wire nets plan (label (codes "A") (point 2 1) (Some (codes "CMF")) 0) ≡ Some 1
unfolding nets plan strip label point a_wire
by_the_line = refl

-- the wires that the line does not list are not tried
listed_wire_is_off : label_wire nets plan (label (codes "A") (point 4 1) (Some (codes "CPG")) 0) ≡ None
unfolding nets plan strip label point a_wire
listed_wire_is_off = refl

at_its_corner : label_wire nets plan (label (codes "A") (point 2 2) (Some (codes "CPG")) 0) ≡ Some 0
unfolding nets plan strip label point a_wire
at_its_corner = refl

past_its_corner : label_wire nets plan (label (codes "A") (point 3 2) (Some (codes "CPG")) 0) ≡ None
unfolding nets plan strip label point a_wire
past_its_corner = refl

-- ---- where it is bound

at_the_top : is_shallow (label (codes "A") (point 2 1) None 0) ≡ true
unfolding label
at_the_top = refl

in_one_call : is_shallow (label (codes "A") (point 2 1) None 1) ≡ true
unfolding label
in_one_call = refl

in_two_calls : is_shallow (label (codes "A") (point 2 1) None 2) ≡ false
unfolding label
in_two_calls = refl

bound_here : is_bound_at nets plan (label (codes "A") (point 2 1) (Some (codes "CMF")) 1) (node 1 2 0) ≡ true
unfolding nets plan strip label point a_wire node
bound_here = refl

on_another_wire : is_bound_at nets plan (label (codes "A") (point 2 1) (Some (codes "CMF")) 1) (node 0 1 0) ≡ false
unfolding nets plan strip label point a_wire node
on_another_wire = refl

too_far : is_bound_at nets plan (label (codes "A") (point 2 1) (Some (codes "CMF")) 1) (node 1 3 0) ≡ false
unfolding nets plan strip label point a_wire node
too_far = refl

too_deep : is_bound_at nets plan (label (codes "A") (point 2 1) (Some (codes "CMF")) 2) (node 1 2 0) ≡ false
unfolding nets plan strip label point a_wire node
too_deep = refl

-- ---- how many labels are bound

labels : List Mark
labels =
    label (codes "A") (point 2 1) None 0 ∷ label (codes "B") (point 2 1) (Some (codes "CMF")) 1 ∷ label (codes "C") (point 4 1) (Some (codes "CPG")) 0 ∷ label (codes "D") (point 2 1) None 2 ∷ []

two_bound : count_bound nets plan labels ≡ 2
unfolding nets plan strip labels label point a_wire
two_bound = refl

one_unbound : count_unbound nets plan labels ≡ 1
unfolding nets plan strip labels label point a_wire
one_unbound = refl

one_deep : count_deep labels ≡ 1
unfolding labels label
one_deep = refl

-- ---- joining

one_name : is_joining plan (codes "A") (codes "A") ≡ true
one_name = refl

small_letter : is_joining plan (codes "A") (codes "a") ≡ false
unfolding plan
small_letter = refl

both_high : is_joining plan (codes "Vdd") (codes "Vcc") ≡ true
unfolding plan
both_high = refl

both_low : is_joining plan (codes "Vss") (codes "GND") ≡ true
unfolding plan
both_low = refl

both_supplies : is_joining plan (codes "Vdd") (codes "GND") ≡ false
unfolding plan
both_supplies = refl

with_labels : List Mark → Labelled
with_labels marks = record { nets = nets; plan = plan; marks = marks }

joined_by_one_name : is_joined_by_name (with_labels (label (codes "A") (point 2 1) None 0 ∷ label (codes "A") (point 2 1) (Some (codes "CMF")) 1 ∷ [])) (node 0 1 0) (node 1 2 1) ≡ true
unfolding nets plan strip label point a_wire node with_labels
joined_by_one_name = refl

linked_by_one_name : is_net_link (with_labels (label (codes "A") (point 2 1) None 0 ∷ label (codes "A") (point 2 1) (Some (codes "CMF")) 1 ∷ [])) (node 0 1 0) (node 1 2 1) ≡ true
unfolding nets plan strip label point a_wire node with_labels
linked_by_one_name = refl

two_names : is_joined_by_name (with_labels (label (codes "A") (point 2 1) None 0 ∷ label (codes "B") (point 2 1) (Some (codes "CMF")) 1 ∷ [])) (node 0 1 0) (node 1 2 1) ≡ false
unfolding nets plan strip label point a_wire node with_labels
two_names = refl

joined_too_deep : is_joined_by_name (with_labels (label (codes "A") (point 2 1) None 2 ∷ label (codes "A") (point 2 1) (Some (codes "CMF")) 1 ∷ [])) (node 0 1 0) (node 1 2 1) ≡ false
unfolding nets plan strip label point a_wire node with_labels
joined_too_deep = refl

-- ---- names

no_name_bound : (name : List ℕ) → IsBoundName (with_labels []) 7 name → ⊥
unfolding with_labels
no_name_bound name h = let none : None ≡ Some h.mark = h.at in cc

number_name : IsNumberName (with_labels []) 7 (codes "#" ++ decimal 7)
number_name = record { none = λ h. no_name_bound h.name h.bound; is = refl }

no_least_name : (name : List ℕ) → IsLeastName (with_labels []) 7 name → ⊥
no_least_name name h = no_name_bound name h.bound

-- ---- ambiguous labels

-- two cells of one wire that meet at a corner
corner : Nets
corner = record { wires = (strip 0 0 1 1 ∷ strip 1 1 2 2 ∷ []) ∷ []; cuts = []; joins = [] }

lower_cell : (x y : ℤ) → is_in_strip (strip 0 0 1 1) x y ≡ true → (x ≡ pos 0) × (y ≡ pos 0)
unfolding strip
lower_cell x y has = (grind (arith, ints, has), grind (arith, ints, has))

upper_cell : (x y : ℤ) → is_in_strip (strip 1 1 2 2) x y ≡ true → (x ≡ pos 1) × (y ≡ pos 1)
unfolding strip
upper_cell x y has = (grind (arith, ints, has), grind (arith, ints, has))

which : (wire : ℕ) (x y : ℤ) → has_node corner wire x y ≡ true → (node_at wire x y ≡ node 0 0 0) ⊎ (node_at wire x y ≡ node 0 1 1)
unfolding corner node
which zero x y has = elim (or_cases (is_in_strip (strip 0 0 1 1) x y) (is_in_strip (strip 1 1 2 2) x y || false) has) [
  | inl low ↦ let (ex, ey) = lower_cell x y low in inl (λ i. record { wire = 0; x = ex i; y = ey i })
  | inr rest ↦ elim (or_cases (is_in_strip (strip 1 1 2 2) x y) false rest) [
    | inl high ↦ let (ex, ey) = upper_cell x y high in inr (λ i. record { wire = 0; x = ex i; y = ey i })
    | inr none ↦ impossible (sym none)
  ]
]
which (suc wire) x y has = impossible (sym has)

is_lower : Node → Bool
is_lower a = int_lt a.x (pos 1)

kept : (a b : Node) → touches corner a b ≡ true → is_lower a ≡ is_lower b
unfolding corner node strip
kept a b touch =
    let (nodes, near) = and_parts (is_node corner a && is_node corner b) (is_along a b || is_through [] a b) touch in
    let (is_a, is_b) = and_parts (is_node corner a) (is_node corner b) nodes in
    elim (which a.wire a.x a.y is_a) [
      | inl a_low ↦ elim (which b.wire b.x b.y is_b) [
        | inl b_low ↦ ap is_lower a_low ∙ sym (ap is_lower b_low)
        | inr b_high ↦ impossible (sym touch ∙ (λ i. touches corner (a_low i) (b_high i)) ∙ not_up)
      ]
      | inr a_high ↦ elim (which b.wire b.x b.y is_b) [
        | inl b_low ↦ impossible (sym touch ∙ (λ i. touches corner (a_high i) (b_low i)) ∙ not_down)
        | inr b_high ↦ ap is_lower a_high ∙ sym (ap is_lower b_high)
      ]
    ]
  where
    not_up : touches corner (node 0 0 0) (node 0 1 1) ≡ false
    not_up = refl

    not_down : touches corner (node 0 1 1) (node 0 0 0) ≡ false
    not_down = refl

two_pieces : IsAmbiguous corner plan (label (codes "A") (point 1 1) None 0)
unfolding corner plan strip label point a_wire node is_lower
two_pieces = record {
  a = node 0 0 0;
  b = node 0 1 1;
  at_a = refl;
  at_b = refl;
  apart = λ linked. impossible (linked_kept (touches corner) is_lower kept (node 0 0 0) (node 0 1 1) linked);
}

-- a label that is too deep, or has no wire, is never ambiguous
deep_label : IsAmbiguous corner plan (label (codes "A") (point 1 1) None 2) → ⊥
unfolding label
deep_label h = impossible (sym h.at_a)

label_without_wire : IsAmbiguous corner plan (label (codes "A") (point 5 5) None 0) → ⊥
unfolding corner plan strip label point a_wire
label_without_wire h = impossible (sym h.at_a)
