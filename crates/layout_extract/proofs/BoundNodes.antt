-- To which nodes a label is bound.
use Rattle.std.proofs.Common.{◌≡◌, ℕ, ◌<◌, ◌&&◌, true, List, Option, Some, slice_get, refl, sym, ap, ◌∙◌, subst, arith}
use Rattle.std.proofs.lemmas.Bool.Decides.{nat_tests}
use Rattle.std.specs.Option.{option_map}
use Rattle.std.specs.List.{find}
use Rattle.std.specs.Ordering.{int_eq}
use Rattle.std.proofs.lemmas.Bool.{both_ways, and_parts, and_from}
use Rattle.std.proofs.lemmas.Bool.Decides.{Decides-int_eq, Decides-eqb}
use Rattle.std.proofs.lemmas.Option.{slice_get_within}
use Rattle.plane_geom.specs.declared.shapes.Point.{Point}
use Rattle.cif_flatten.specs.declared.flat.Mark.{Mark}
use Rattle.layer_map.specs.declared.map.WireId.{WireId}
use Rattle.layer_map.specs.Plan.{Plan}
use Rattle.layer_map.specs.Views.{numbers_seen}
use Rattle.net_trace.specs.declared.node.Node.{Node}
use Rattle.net_trace.specs.Touching.{Nets, has_node, is_node}
use Rattle.net_trace.specs.Nets.{IsNetNumber, node_at}
use Rattle.layout_extract.specs.Labels.{cells_round, is_round, is_near, tried_wires, label_wire, is_shallow, is_wire, is_bound_at, IsAmbiguous}
use Rattle.layout_extract.specs.Binding.{HasNodeIn, HasNoNodeIn, AreOneNet, AreTwoNets, IsBoundTo, HasWire}
use Rattle.layout_extract.proofs.Places.{place_of, any_at, find_map, found_passes}
use Rattle.net_trace.proofs.NetNumbers.{net_one, net_links}
use Rattle.net_trace.proofs.TracedNets.{touch_linked}

pub shallow_from : (m : Mark) → m.depth < 2 → is_shallow m ≡ true
shallow_from m lt = grind (arith, nat_tests, lt)

module _ (nets : Nets) (plan : Plan) (m : Mark) where
  -- the wire is the first that has a node near the point
  pub wire_is : (wires : List WireId) (found : Option WireId) → numbers_seen wires ≡ tried_wires plan m.layer → found ≡ find (λ w. is_near nets m.at w.0) wires → label_wire nets plan m ≡ option_map (λ w. w.0) found
  wire_is wires found seen is = ap (λ ws. find (is_near nets m.at) ws) (sym seen) ∙ find_map (is_near nets m.at) (λ (w : WireId). w.0) wires ∙ ap (λ o. option_map (λ (w : WireId). w.0) o) (sym is)

  module _ (wire : ℕ) (is : label_wire nets plan m ≡ Some wire) (shallow : is_shallow m ≡ true) where
    own_wire : is_wire (label_wire nets plan m) wire ≡ true
    own_wire = subst (λ o. is_wire o wire ≡ true) (sym is) ((Decides-eqb wire wire).1 refl)

    pub bound_cell : (k : ℕ) (c : Point) → slice_get (cells_round m.at) k ≡ Some c → has_node nets wire c.x c.y ≡ true → is_bound_at nets plan m (node_at wire c.x c.y) ≡ true
    bound_cell k c at has =
        let here = and_from (int_eq c.x c.x) (int_eq c.y c.y) ((Decides-int_eq c.x c.x).1 refl) ((Decides-int_eq c.y c.y).1 refl) in
        let round = any_at (λ (d : Point). int_eq d.x c.x && int_eq d.y c.y) (cells_round m.at) k c at here in
        and_from (is_shallow m && is_wire (label_wire nets plan m) wire) (is_round m.at c.x c.y && has_node nets wire c.x c.y)
        (and_from (is_shallow m) (is_wire (label_wire nets plan m) wire) shallow own_wire) (and_from (is_round m.at c.x c.y) (has_node nets wire c.x c.y) round has)

    pub bound_back : (a : Node) → is_bound_at nets plan m a ≡ true → (k : ℕ) × (c : Point) × (slice_get (cells_round m.at) k ≡ Some c) × (a ≡ node_at wire c.x c.y) × (has_node nets wire c.x c.y ≡ true)
    bound_back a bound =
        let (front, back) = and_parts (is_shallow m && is_wire (label_wire nets plan m) a.wire) (is_round m.at a.x a.y && is_node nets a) bound in
        let (low, on) = and_parts (is_shallow m) (is_wire (label_wire nets plan m) a.wire) front in
        let (round, node) = and_parts (is_round m.at a.x a.y) (is_node nets a) back in
        let (k, c, at, here) = place_of (λ (d : Point). int_eq d.x a.x && int_eq d.y a.y) (cells_round m.at) round in
        let (x_is, y_is) = and_parts (int_eq c.x a.x) (int_eq c.y a.y) here in
        let x : c.x ≡ a.x = (Decides-int_eq c.x a.x).0 x_is in
        let y : c.y ≡ a.y = (Decides-int_eq c.y a.y).0 y_is in
        let w : wire ≡ a.wire = (Decides-eqb wire a.wire).0 (subst (λ o. is_wire o a.wire ≡ true) is on) in
        let same : a ≡ node_at wire c.x c.y = λ i. record { wire = sym w i; x = sym x i; y = sym y i } in
        (k, c, at, same, subst (λ b. is_node nets b ≡ true) same node)

    pub has_wire : HasWire nets plan m
    has_wire = record { wire = wire; is = is; shallow = shallow }

    pub bound_one : (cell : Point) (net : ℕ) → HasNodeIn nets wire (cells_round m.at) 4 cell net → AreOneNet nets wire (cells_round m.at) 4 net → IsBoundTo nets plan m (node_at wire cell.x cell.y)
    bound_one cell net here each = record {
      bound = bound_cell here.k cell here.at here.number.thing;
      one = λ a bound.
          let (k, c, at, same, has) = bound_back a bound in
          let number = each.each k c (slice_get_within (cells_round m.at) k c at) at has in
          net_links nets a (node_at wire cell.x cell.y) net (subst (λ b. IsNetNumber nets b net) (sym same) number) here.number;
    }

    pub bound_two : AreTwoNets nets wire (cells_round m.at) 4 → IsAmbiguous nets plan m
    bound_two h = record {
      a = node_at wire h.c.x h.c.y;
      b = node_at wire h.d.x h.d.y;
      at_a = bound_cell h.one.k h.c h.one.at h.one.number.thing;
      at_b = bound_cell h.other.k h.d h.other.at h.other.number.thing;
      apart = λ linked. h.apart (net_one nets (node_at wire h.c.x h.c.y) (node_at wire h.d.x h.d.y) h.m h.n h.one.number h.other.number (touch_linked nets (node_at wire h.c.x h.c.y) (node_at wire h.d.x h.d.y) linked));
    }

    pub not_none : {P : Type 0} → HasNoNodeIn nets wire (cells_round m.at) 4 → P
    not_none h =
        let (k, c, at, has) = place_of (λ (c : Point). has_node nets wire c.x c.y) (cells_round m.at) (found_passes (is_near nets m.at) (tried_wires plan m.layer) wire is) in
        absurd (both_ways (has_node nets wire c.x c.y) (h.none k c (slice_get_within (cells_round m.at) k c at) at) has)
