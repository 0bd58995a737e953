-- From the bindings that the program keeps to the nets and names of the definitions.
use Rattle.std.proofs.Common.{◌≡◌, ℕ, ◌&&◌, ◌||◌, Bool, true, false, List, [], length, get_or, Some, None, slice_get, refl, sym, ap, ◌∙◌, subst}
use Rattle.std.specs.List.{All, AllZip}
use Rattle.std.proofs.lemmas.Bool.{both_ways, and_parts}
use Rattle.std.proofs.lemmas.Option.{slice_get-get_or, slice_get_within}
use Rattle.cif_flatten.specs.declared.flat.Mark.{Mark}
use Rattle.layer_map.specs.Plan.{Plan}
use Rattle.link_classes.specs.Linked.{Linked}
use Rattle.link_classes.proofs.Chains.{linked_touch, linked_trans, linked_sym, linked_map}
use Rattle.net_trace.specs.declared.node.Node.{Node}
use Rattle.net_trace.specs.Touching.{Nets, is_node, touches}
use Rattle.net_trace.specs.Nets.{is_joined, is_link, node_at}
use Rattle.layout_extract.specs.declared.bindings.Binding.{Binding}
use Rattle.layout_extract.specs.declared.bindings.Binding.TheVariants.{Deep, Unbound, Ambiguous, Bound}
use Rattle.layout_extract.specs.declared.tags.Spot.{Spot}
use Rattle.layout_extract.specs.Labels.{label_wire, is_shallow, is_wire, is_round, is_bound_at, IsAmbiguous, AreClear, IsFirstAmbiguous}
use Rattle.layout_extract.specs.Binding.{IsBinding}
use Rattle.layout_extract.specs.Tags.{HasNoAmbiguous, HasAmbiguousAt, AreSpotsOf, HasNode}
use Rattle.layout_extract.proofs.Places.{one_at, zip_left}

-- where nothing is joined, what is linked touches
not_joined : (t n : Bool) → (t || (n && false)) ≡ true → t ≡ true
not_joined true n h = refl
not_joined false true h = h
not_joined false false h = h

pub link_touch : (nets : Nets) → nets.joins ≡ [] → (a b : Node) → is_link nets a b ≡ true → touches nets a b ≡ true
link_touch nets none a b is = not_joined (touches nets a b) (is_node nets a && is_node nets b) (subst (λ js. (touches nets a b || ((is_node nets a && is_node nets b) && is_joined js a b)) ≡ true) none is)

pub untouch : (nets : Nets) → nets.joins ≡ [] → (a b : Node) → Linked (is_link nets) a b → Linked (touches nets) a b
untouch nets none a b linked = linked_map (is_link nets) (touches nets) (λ x. x) (λ c d is. linked_touch (touches nets) c d (link_touch nets none c d is)) a b linked

abbrev pub spot_node : Spot → Node
spot_node s = node_at s.wire.0 s.cell.x s.cell.y

module _ (nets : Nets) (plan : Plan) where
  bound_shallow : (m : Mark) (a : Node) → is_bound_at nets plan m a ≡ true → is_shallow m ≡ true
  bound_shallow m a bound = (and_parts (is_shallow m) (is_wire (label_wire nets plan m) a.wire) (and_parts (is_shallow m && is_wire (label_wire nets plan m) a.wire) (is_round m.at a.x a.y && is_node nets a) bound).0).0

  bound_wire : {P : Type 0} (m : Mark) (a : Node) → is_bound_at nets plan m a ≡ true → label_wire nets plan m ≡ None → P
  bound_wire m a bound none =
      let on = (and_parts (is_shallow m) (is_wire (label_wire nets plan m) a.wire) (and_parts (is_shallow m && is_wire (label_wire nets plan m) a.wire) (is_round m.at a.x a.y && is_node nets a) bound).0).1 in
      absurd (both_ways (is_wire (label_wire nets plan m) a.wire) (ap (λ o. is_wire o a.wire) none) on)

  bound_node : (m : Mark) (a : Node) → is_bound_at nets plan m a ≡ true → is_node nets a ≡ true
  bound_node m a bound = (and_parts (is_round m.at a.x a.y) (is_node nets a) (and_parts (is_shallow m && is_wire (label_wire nets plan m) a.wire) (is_round m.at a.x a.y && is_node nets a) bound).1).1

  ambiguous_only : nets.joins ≡ [] → (m : Mark) (b : Binding) → IsBinding nets plan m b → IsAmbiguous nets plan m → b ≡ Ambiguous
  ambiguous_only none m Deep is two = absurd (both_ways (is_shallow m) is (bound_shallow m two.a two.at_a))
  ambiguous_only none m Unbound is two = bound_wire m two.a two.at_a is.none
  ambiguous_only none m Ambiguous is two = refl
  ambiguous_only none m (Bound w c) is two =
      absurd (two.apart (untouch nets none two.a two.b (linked_trans (is_link nets) two.a (node_at w.0 c.x c.y) two.b (is.1.one two.a two.at_a) (linked_sym (is_link nets) two.b (node_at w.0 c.x c.y) (is.1.one two.b two.at_b)))))

  module _ (marks : List Mark) (bindings : List Binding) (zip : AllZip (IsBinding nets plan) marks bindings) where
    pub are_clear : nets.joins ≡ [] → HasNoAmbiguous bindings (length marks) → AreClear nets plan marks
    are_clear none clear = record {
      none = λ k m at two.
          let (b, at_b, is) = zip_left (IsBinding nets plan) marks bindings k m zip at in
          clear.none k (slice_get_within marks k m at) (at_b ∙ ap (λ x. Some x) (ambiguous_only none m b is two));
    }

    pub first_is : nets.joins ≡ [] → (place : ℕ) → HasAmbiguousAt marks bindings (length marks) place → IsFirstAmbiguous nets plan marks place
    first_is none place h =
        let (b, at_b, is) = zip_left (IsBinding nets plan) marks bindings h.k h.mark zip h.at in
        let binding = subst (λ x. IsBinding nets plan h.mark x) (one_at bindings h.k h.k b Ambiguous refl at_b h.two) is in
        record {
          k = h.k;
          mark = h.mark;
          at = h.at;
          is = h.is;
          two = binding.1;
          first = λ j m at two.
              let (x, at_x, is_x) = zip_left (IsBinding nets plan) marks bindings j m zip at in
              h.first j m (slice_get_within marks j m at) at (at_x ∙ ap (λ y. Some y) (ambiguous_only none m x is_x two));
        }

    module _ (spots : List Spot) (spotted : AreSpotsOf marks bindings (length marks) spots) where
      -- a spot is where a label of its name is bound
      pub spot_bound : (j : ℕ) (s : Spot) → slice_get spots j ≡ Some s → (k : ℕ) × (m : Mark) × (slice_get marks k ≡ Some m) × (m.name ≡ s.name.now) × (is_bound_at nets plan m (spot_node s) ≡ true)
      spot_bound j s at =
          let from = spotted.each j s at in
          let (b, at_b, is) = zip_left (IsBinding nets plan) marks bindings from.k from.mark zip from.at in
          let binding = subst (λ x. IsBinding nets plan from.mark x) (one_at bindings from.k from.k b (Bound s.wire s.cell) refl at_b from.is) is in
          (from.k, from.mark, from.at, from.name, binding.1.bound)

      by_binding : HasNoAmbiguous bindings (length marks) → (k : ℕ) (m : Mark) (a : Node) (b : Binding) → slice_get marks k ≡ Some m → is_bound_at nets plan m a ≡ true → slice_get bindings k ≡ Some b → IsBinding nets plan m b
          → (j : ℕ) × (s : Spot) × (slice_get spots j ≡ Some s) × (s.name.now ≡ m.name) × Linked (is_link nets) a (spot_node s)
      by_binding clear k m a Deep at bound at_b is = absurd (both_ways (is_shallow m) is (bound_shallow m a bound))
      by_binding clear k m a Unbound at bound at_b is = bound_wire m a bound is.none
      by_binding clear k m a Ambiguous at bound at_b is = absurd (clear.none k (slice_get_within marks k m at) at_b)
      by_binding clear k m a (Bound w c) at bound at_b is =
          let found = spotted.all k m w c (slice_get_within marks k m at) at at_b in
          let linked = is.1.one a bound in (
            found.j,
            found.spot,
            found.at,
            found.name_is,
            subst (λ v. Linked (is_link nets) a (node_at v.0 found.spot.cell.x found.spot.cell.y)) (sym found.wire_is) (subst (λ d. Linked (is_link nets) a (node_at w.0 d.x d.y)) (sym found.cell_is) linked),
          )

      -- where a label is bound, a spot of its name is linked
      pub bound_spot : HasNoAmbiguous bindings (length marks) → (k : ℕ) (m : Mark) (a : Node) → slice_get marks k ≡ Some m → is_bound_at nets plan m a ≡ true
          → (j : ℕ) × (s : Spot) × (slice_get spots j ≡ Some s) × (s.name.now ≡ m.name) × Linked (is_link nets) a (spot_node s)
      bound_spot clear k m a at bound =
          let (b, at_b, is) = zip_left (IsBinding nets plan) marks bindings k m zip at in
          by_binding clear k m a b at bound at_b is

      pub have_nodes : All (HasNode nets) spots
      have_nodes k d lt =
          let (i, m, at, name, bound) = spot_bound k (get_or spots k d) (slice_get-get_or spots k d lt) in
          bound_node m (spot_node (get_or spots k d)) bound
