-- The classes of strips, by pairs that link what touches, are nets where nothing is joined.
use Rattle.std.proofs.Common.{◌≡◌, ℕ, ◌<◌, ◌≤◌, true, ◌&&◌, ◌==◌, List, [], length, sym, ap, ◌∙◌, subst, arith, inl, inr, slice_get, slice_index, get_or, Some}
use Rattle.std.specs.Prelude.{pos}
use Rattle.std.specs.declared.cmp.Ordering.TheVariants.{Less, Greater}
use Rattle.std.specs.Ordering.{ordering_reverse}
use Rattle.std.proofs.lemmas.Bool.{cases_order, and_parts, eqb-true}
use Rattle.std.proofs.lemmas.List.Folds.{Any-from_list_any}
use Rattle.std.proofs.lemmas.Option.{slice_get_within, slice_get-get_or, get_or_from_slice_get}
use Rattle.link_classes.specs.Linked.{Linked}
use Rattle.link_classes.specs.Classes.{has_pair, AreClasses}
use Rattle.link_classes.proofs.Chains.{linked_map}
use Rattle.link_classes.proofs.UniqueNumbers.{some_one}
use Rattle.mask_region.specs.declared.strips.Strip.{Strip}
use Rattle.net_trace.specs.declared.node.Node.{Node}
use Rattle.net_trace.specs.declared.wiring.Vertex.{Vertex}
use Rattle.net_trace.specs.Touching.{Cut, Nets, is_node, touches}
use Rattle.net_trace.specs.Nets.{node_cmp, is_joined, is_link}
use Rattle.net_trace.specs.Wirings.{corner, vertices_of, AreAllBanded, AreOrdered, AreShared, IsSound, AreEdges, IsTraced, AreCorners}
use Rattle.net_trace.proofs.VertexLists.{vertices_ordered}
use Rattle.net_trace.proofs.TracedNets.{touch_linked}
use Rattle.net_trace.proofs.NodeOrder.{node_total, corner_before}
use Rattle.mask_region.proofs.Within.{or_cases}
use Rattle.link_classes.proofs.Pairs.{has_own}

abbrev pub no_vertex : Vertex
no_vertex = record { wire = 0; strip = record { y0 = pos 0; y1 = pos 0; x0 = pos 0; x1 = pos 0 } }

pub less_both : {P : Type 0} (a b : Node) → node_cmp a b ≡ Less → node_cmp b a ≡ Less → P
less_both a b ab ba = let back : Less ≡ Greater = sym ba ∙ node_total.antisymm b a ∙ ap (λ o. ordering_reverse o) ab in let none : ⊥ = cc in absurd none

-- what labels of classes share is shared on each pair
pub classes_shared : (size : ℕ) (pairs : List (ℕ × ℕ)) (label least : List ℕ) → AreClasses size (has_pair pairs) label least → AreShared pairs (λ k. slice_index label k)
classes_shared size pairs label least h k d lt = h.shared (get_or pairs k d).0 (get_or pairs k d).1 (has_own pairs k d lt)

module _ (wires : List (List Strip)) (cuts : List Cut) (banded : AreAllBanded wires) (pairs : List (ℕ × ℕ)) (label least : List ℕ) (roots : List Node)
    (edges : AreEdges (record { wires = wires; cuts = cuts; joins = [] }) (vertices_of 0 wires) pairs) (classes : AreClasses (length (vertices_of 0 wires)) (has_pair pairs) label least)
    (corners : AreCorners (vertices_of 0 wires) least (length least) roots) where
  abbrev nets : Nets
  nets = record { wires = wires; cuts = cuts; joins = [] }

  ordered : AreOrdered (vertices_of 0 wires)
  ordered = vertices_ordered wires banded

  vertex_is : (i : ℕ) (u : Vertex) → slice_get (vertices_of 0 wires) i ≡ Some u → get_or (vertices_of 0 wires) i no_vertex ≡ u
  vertex_is i u at = get_or_from_slice_get (vertices_of 0 wires) i u no_vertex at

  edge_linked : (i j : ℕ) → has_pair pairs i j ≡ true → Linked (is_link nets) (corner (get_or (vertices_of 0 wires) i no_vertex)) (corner (get_or (vertices_of 0 wires) j no_vertex))
  edge_linked i j has =
      let (k, p, lt, is, pass) = Any-from_list_any (λ (q : ℕ × ℕ). q.0 == i && q.1 == j) pairs has in
      let (first, second) = and_parts (p.0 == i) (p.1 == j) pass in
      let sound : IsSound nets (vertices_of 0 wires) p = subst (λ (q : ℕ × ℕ). IsSound nets (vertices_of 0 wires) q) is (edges.sound k p lt) in
      let from : get_or (vertices_of 0 wires) i no_vertex ≡ sound.from = vertex_is i sound.from (ap (λ n. slice_get (vertices_of 0 wires) n) (sym (eqb-true p.0 i first)) ∙ sound.first) in
      let to : get_or (vertices_of 0 wires) j no_vertex ≡ sound.to = vertex_is j sound.to (ap (λ n. slice_get (vertices_of 0 wires) n) (sym (eqb-true p.1 j second)) ∙ sound.second) in
      subst (λ (v : Vertex). Linked (is_link nets) (corner v) (corner (get_or (vertices_of 0 wires) j no_vertex))) (sym from)
      (subst (λ (v : Vertex). Linked (is_link nets) (corner sound.from) (corner v)) (sym to) (touch_linked nets (corner sound.from) (corner sound.to) sound.linked))

  at_least : (k : ℕ) → k < length least → slice_get (vertices_of 0 wires) (slice_index least k) ≡ Some (get_or (vertices_of 0 wires) (slice_index least k) no_vertex)
  at_least k lt = slice_get-get_or (vertices_of 0 wires) (slice_index least k) no_vertex (classes.inside k lt)

  root_at : (k : ℕ) → k < length least → slice_get roots k ≡ Some (corner (get_or (vertices_of 0 wires) (slice_index least k) no_vertex))
  root_at k lt = corners.at k (get_or (vertices_of 0 wires) (slice_index least k) no_vertex) lt (at_least k lt)

  root_in : (k : ℕ) (r : Node) → slice_get roots k ≡ Some r → k < length least
  root_in k r at = omega (arith, slice_get_within roots k r at, corners.each)

  root_is : (k : ℕ) (r : Node) → slice_get roots k ≡ Some r → corner (get_or (vertices_of 0 wires) (slice_index least k) no_vertex) ≡ r
  root_is k r at = some_one (corner (get_or (vertices_of 0 wires) (slice_index least k) no_vertex)) r (sym (root_at k (root_in k r at)) ∙ at)

  in_order : (i j : ℕ) (u v : Vertex) → i ≤ j → slice_get (vertices_of 0 wires) i ≡ Some u → slice_get (vertices_of 0 wires) j ≡ Some v → node_cmp (corner v) (corner u) ≡ Less → ⊥
  in_order i j u v le at_u at_v less = elim (cases_order i j) [
    | inl same ↦ let one : u ≡ v = some_one u v (sym at_u ∙ ap (λ n. slice_get (vertices_of 0 wires) n) same ∙ at_v) in
        less_both (corner u) (corner u) (subst (λ (x : Vertex). node_cmp (corner x) (corner u) ≡ Less) (sym one) less) (subst (λ (x : Vertex). node_cmp (corner x) (corner u) ≡ Less) (sym one) less)
    | inr (inl before) ↦ less_both (corner v) (corner u) less (corner_before u v (ordered.strip i u at_u) (ordered.behind i j u v before at_u at_v))
    | inr (inr after) ↦ absurd (omega (arith, le, after))
  ]

  pub traced_start : IsTraced nets label roots
  traced_start = record {
    each = classes.each;
    shared = record { kept = λ a b i j at_a at_b is. (edges.whole (λ k. slice_index label k) (classes_shared (length (vertices_of 0 wires)) pairs label least classes)).kept a b i j at_a at_b (touch_of a b is) };
    reached = λ i u at.
        let lt = slice_get_within (vertices_of 0 wires) i u at in
        let k = slice_index label i in
        let k_in = classes.below i lt in (
          corner (get_or (vertices_of 0 wires) (slice_index least k) no_vertex),
          root_at k k_in,
          subst (λ (x : Vertex). Linked (is_link nets) (corner (get_or (vertices_of 0 wires) (slice_index least k) no_vertex)) (corner x)) (vertex_is i u at)
              (linked_map (has_pair pairs) (is_link nets) (λ n. corner (get_or (vertices_of 0 wires) n no_vertex)) edge_linked (slice_index least k) i (classes.reached i lt)),
          in_order (slice_index least k) i (get_or (vertices_of 0 wires) (slice_index least k) no_vertex) u (classes.first i lt) (at_least k k_in) at,
        );
    own = λ k r at. let k_in = root_in k r at in (slice_index least k, get_or (vertices_of 0 wires) (slice_index least k) no_vertex, at_least k k_in, classes.own k k_in, root_is k r at);
    rising = λ j k q r lt at_q at_r.
        let j_in = root_in j q at_q in
        let k_in = root_in k r at_r in
        let u = get_or (vertices_of 0 wires) (slice_index least j) no_vertex in
        let v = get_or (vertices_of 0 wires) (slice_index least k) no_vertex in
        subst (λ (x : Node). node_cmp x r ≡ Less) (root_is j q at_q) (subst (λ (x : Node). node_cmp (corner u) x ≡ Less) (root_is k r at_r)
        (corner_before u v (ordered.strip (slice_index least j) u (at_least j j_in)) (ordered.behind (slice_index least j) (slice_index least k) u v (classes.rising j k lt k_in) (at_least j j_in) (at_least k k_in))));
  } where
    touch_of : (a b : Node) → is_link nets a b ≡ true → touches nets a b ≡ true
    touch_of a b is = elim (or_cases (touches nets a b) ((is_node nets a && is_node nets b) && is_joined [] a b) is) [
      | inl touch ↦ touch
      | inr join ↦ let (nodes, none) = and_parts (is_node nets a && is_node nets b) (is_joined [] a b) join in absurd (let no : ⊥ = cc in no)
    ]
