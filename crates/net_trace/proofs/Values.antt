-- Linked nodes of a wire lie in strips of one value, where touching ones do.
use Rattle.std.proofs.Common.{◌≡◌, ℕ, ◌<◌, Bool, true, ◌&&◌, ◌||◌, ◌==◌, List, length, sym, ap, ◌∙◌, subst, arith, inl, inr, slice_get, get_or, Some}
use Rattle.std.specs.List.{position_or_len}
use Rattle.std.proofs.lemmas.Bool.{cases_lt, and_parts, and_from, eqb-true, or_left}
use Rattle.std.proofs.lemmas.List.Sums.{fails_before_first, passes_at_first}
use Rattle.std.proofs.lemmas.Option.{slice_get_within, slice_get-get_or, get_or_from_slice_get}
use Rattle.link_classes.specs.Linked.{Linked}
use Rattle.link_classes.proofs.Chains.{linked_kept, linked_map, linked_touch}
use Rattle.mask_region.specs.Strips.{is_in_strip}
use Rattle.net_trace.specs.declared.node.Node.{Node}
use Rattle.net_trace.specs.declared.wiring.Vertex.{Vertex}
use Rattle.net_trace.specs.Touching.{Nets, is_in_wire, is_node, is_along, is_through, touches}
use Rattle.net_trace.specs.Nets.{node_at}
use Rattle.net_trace.specs.Wirings.{is_at, corner, vertices_of, IsVertexAt, AreOrdered, IsSharedAlong, is_along_wire}
use Rattle.net_trace.proofs.Lists.{not_both_ways}
use Rattle.net_trace.proofs.VertexLists.{of_wire}
use Rattle.net_trace.proofs.VertexFacts.{in_region, wire_has, node_vertex, one_vertex}
use Rattle.net_trace.proofs.Rectangles.{rectangle_linked}

abbrev pub index_of : List Vertex → Node → ℕ
index_of vertices a = position_or_len (λ v. is_at v a) vertices

index_within : (vertices : List Vertex) (a : Node) (i : ℕ) (v : Vertex) → slice_get vertices i ≡ Some v → is_at v a ≡ true → index_of vertices a < length vertices
index_within vertices a i v at has = elim (cases_lt (index_of vertices a) (length vertices)) [
  | inl lt ↦ lt
  | inr ge ↦ not_both_ways (is_at v a) has
      (ap (λ x. is_at x a) (sym (get_or_from_slice_get vertices i v v at)) ∙ fails_before_first (λ (x : Vertex). is_at x a) vertices i v (omega (arith, ge, slice_get_within vertices i v at)))
]

pub index_is : (vertices : List Vertex) (a : Node) (i : ℕ) → AreOrdered vertices → IsVertexAt vertices a i → index_of vertices a ≡ i
index_is vertices a i ordered h =
    let lt = index_within vertices a i h.vertex h.at h.has in
    one_vertex vertices a (index_of vertices a) i ordered
    (record { vertex = get_or vertices (index_of vertices a) h.vertex; at = slice_get-get_or vertices (index_of vertices a) h.vertex lt; has = passes_at_first (λ (x : Vertex). is_at x a) vertices h.vertex lt }) h

module _ (nets : Nets) (ordered : AreOrdered (vertices_of 0 nets.wires)) where
  -- what is kept where nodes touch is kept where they are linked
  pub linked_value : (link : Node → Node → Bool) (value : ℕ → ℕ) → ((a b : Node) → link a b ≡ true → (is_node nets a ≡ true) × (is_node nets b ≡ true)) → IsSharedAlong link (vertices_of 0 nets.wires) value
      → (a b : Node) (i j : ℕ) → Linked link a b → IsVertexAt (vertices_of 0 nets.wires) a i → IsVertexAt (vertices_of 0 nets.wires) b j → value i ≡ value j
  linked_value link value nodes kept a b i j linked at_a at_b =
      ap value (sym (index_is (vertices_of 0 nets.wires) a i ordered at_a))
      ∙ linked_kept link (λ c. value (index_of (vertices_of 0 nets.wires) c)) step a b linked
      ∙ ap value (index_is (vertices_of 0 nets.wires) b j ordered at_b)
    where
      step : (c d : Node) → link c d ≡ true → value (index_of (vertices_of 0 nets.wires) c) ≡ value (index_of (vertices_of 0 nets.wires) d)
      step c d is =
          let both = nodes c d is in
          let (k, at_c) = node_vertex nets c both.0 in
          let (l, at_d) = node_vertex nets d both.1 in
          ap value (index_is (vertices_of 0 nets.wires) c k ordered at_c) ∙ kept.kept c d k l at_c at_d is ∙ ap value (sym (index_is (vertices_of 0 nets.wires) d l ordered at_d))

  pub along_nodes : (a b : Node) → is_along_wire nets.wires a b ≡ true → (is_node nets a ≡ true) × (is_node nets b ≡ true)
  along_nodes a b is =
      let (nodes, beside) = and_parts (is_node nets a && is_node nets b) (is_along a b) is in
      and_parts (is_node nets a) (is_node nets b) nodes

  pub along_touches : (a b : Node) → is_along_wire nets.wires a b ≡ true → touches nets a b ≡ true
  along_touches a b is =
      let (nodes, beside) = and_parts (is_node nets a && is_node nets b) (is_along a b) is in
      and_from (is_node nets a && is_node nets b) (is_along a b || is_through nets.cuts a b) nodes (or_left (is_along a b) (is_through nets.cuts a b) beside)

  -- each node of a strip is linked to its least one
  pub corner_along : (a : Node) (i : ℕ) (h : IsVertexAt (vertices_of 0 nets.wires) a i) → Linked (is_along_wire nets.wires) (corner h.vertex) a
  corner_along a i h =
      let v = h.vertex in
      let (wire, cell) = and_parts (v.wire == a.wire) (is_in_strip v.strip a.x a.y) h.has in
      let (w, r, k, same, at_w, at_k) = of_wire 0 nets.wires i v h.at in
      let is_w : w ≡ v.wire = omega (arith, same) in
      subst (λ n. Linked (is_along_wire nets.wires) (corner v) (node_at n a.x a.y)) (eqb-true v.wire a.wire wire)
      (rectangle_linked nets.wires v.wire v.strip a.x a.y
      (λ x y has. subst (λ n. is_in_wire (slice_get nets.wires n) x y ≡ true) is_w (wire_has nets.wires w r x y at_w (in_region r k v.strip x y at_k has))) cell)

  pub corner_linked : (a : Node) (i : ℕ) (h : IsVertexAt (vertices_of 0 nets.wires) a i) → Linked (touches nets) (corner h.vertex) a
  corner_linked a i h = linked_map (is_along_wire nets.wires) (touches nets) (λ c. c) (λ c d is. linked_touch (touches nets) c d (along_touches c d is)) (corner h.vertex) a (corner_along a i h)
