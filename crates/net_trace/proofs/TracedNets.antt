-- What the labels of strips and the least nodes say of the nets.
use Rattle.std.proofs.Common.{◌≡◌, ℕ, ◌+◌, ◌*◌, ◌<◌, true, ◌&&◌, ◌||◌, ◌==◌, List, length, refl, sym, ap, ◌∙◌, subst, arith, inl, inr, slice_get, slice_index, get_or, Some}
use Rattle.std.specs.Prelude.{pos}
use Rattle.std.specs.List.{All}
use Rattle.std.specs.declared.cmp.Ordering.{Ordering}
use Rattle.std.specs.declared.cmp.Ordering.TheVariants.{Less, Equal, Greater}
use Rattle.std.specs.Ordering.{ordering_reverse}
use Rattle.std.proofs.lemmas.Bool.{and_parts, and_from, eqb-true, eq-eqb, or_left}
use Rattle.std.proofs.lemmas.Option.{slice_get_within, slice_get-get_or, get_or_from_slice_get}
use Rattle.link_classes.specs.Linked.{Linked}
use Rattle.link_classes.proofs.Chains.{linked_refl, linked_touch, linked_trans, linked_sym, linked_map, linked_kept}
use Rattle.link_classes.proofs.UniqueNumbers.{some_one}
use Rattle.mask_region.specs.declared.strips.Strip.{Strip}
use Rattle.mask_region.specs.Strips.{is_in_strip}
use Rattle.net_trace.specs.declared.node.Node.{Node}
use Rattle.net_trace.specs.declared.wiring.Vertex.{Vertex}
use Rattle.net_trace.specs.Touching.{Nets, is_node, is_along, is_through, touches}
use Rattle.net_trace.specs.Nets.{node_cmp, is_joined, is_link, AreNetRoots, IsNetNumber, IsNetCount, node_at, IsRegionOf, AreRegionsOf}
use Rattle.net_trace.specs.Wirings.{is_at, corner, vertices_of, AreAllBanded, IsVertexAt, AreOrdered, IsTraced, AreParts}
use Rattle.net_trace.proofs.VertexLists.{vertices_ordered, of_wire}
use Rattle.net_trace.proofs.VertexFacts.{in_region, strip_with, node_vertex, node_of, has_corner}
use Rattle.net_trace.proofs.Values.{linked_value, corner_linked}
use Rattle.net_trace.proofs.Filling.{place_in}
use Rattle.net_trace.proofs.NetNumbers.{net_one}
use Rattle.net_trace.proofs.NodeOrder.{node_total, node_equal, corner_least}
use Rattle.mask_region.proofs.Within.{or_cases}

-- ---- order

pub less_trans : (a b c : Node) → node_cmp a b ≡ Less → node_cmp b c ≡ Less → node_cmp a c ≡ Less
less_trans a b c ab bc = node_total.trans a b c ab bc

-- what comes before a node that is not before another one is not before it either
pub not_before : (a b c : Node) → (node_cmp b a ≡ Less → ⊥) → (node_cmp a c ≡ Less → ⊥) → node_cmp b c ≡ Less → ⊥
not_before a b c ba ac bc = by_order (node_cmp b a) refl
  where
    by_order : (o : Ordering) → node_cmp b a ≡ o → ⊥
    by_order Less is = ba is
    by_order Equal is = ac (subst (λ (x : Node). node_cmp x c ≡ Less) (node_equal b a is) bc)
    by_order Greater is = ac (less_trans a b c (node_total.antisymm a b ∙ ap (λ o. ordering_reverse o) is) bc)

-- ---- links

module _ (nets : Nets) where
  pub link_nodes : (a b : Node) → is_link nets a b ≡ true → (is_node nets a ≡ true) × (is_node nets b ≡ true)
  link_nodes a b is = elim (or_cases (touches nets a b) ((is_node nets a && is_node nets b) && is_joined nets.joins a b) is) [
    | inl touch ↦ let (nodes, near) = and_parts (is_node nets a && is_node nets b) (is_along a b || is_through nets.cuts a b) touch in and_parts (is_node nets a) (is_node nets b) nodes
    | inr join ↦ let (nodes, joined) = and_parts (is_node nets a && is_node nets b) (is_joined nets.joins a b) join in and_parts (is_node nets a) (is_node nets b) nodes
  ]

  pub linked_node : (a b : Node) → is_node nets a ≡ true → Linked (is_link nets) a b → is_node nets b ≡ true
  linked_node a b node linked = sym (linked_kept (is_link nets) (λ c. is_node nets c) (λ c d is. let (p, q) = link_nodes c d is in p ∙ sym q) a b linked) ∙ node

  pub touch_link : (a b : Node) → touches nets a b ≡ true → is_link nets a b ≡ true
  touch_link a b is = or_left (touches nets a b) ((is_node nets a && is_node nets b) && is_joined nets.joins a b) is

  pub touch_linked : (a b : Node) → Linked (touches nets) a b → Linked (is_link nets) a b
  touch_linked a b linked = linked_map (touches nets) (is_link nets) (λ c. c) (λ c d is. linked_touch (is_link nets) c d (touch_link c d is)) a b linked

module _ (nets : Nets) (label : List ℕ) (roots : List Node) (banded : AreAllBanded nets.wires) (h : IsTraced nets label roots) where
  ordered : AreOrdered (vertices_of 0 nets.wires)
  ordered = vertices_ordered nets.wires banded

  pub one_label : (a b : Node) (i j : ℕ) → Linked (is_link nets) a b → IsVertexAt (vertices_of 0 nets.wires) a i → IsVertexAt (vertices_of 0 nets.wires) b j → slice_index label i ≡ slice_index label j
  one_label a b i j linked at_a at_b = linked_value nets ordered (is_link nets) (λ k. slice_index label k) (link_nodes nets) h.shared a b i j linked at_a at_b

  -- the root of a node's strip is linked to it, and it does not come before the root
  pub root_of : (a : Node) (i : ℕ) → IsVertexAt (vertices_of 0 nets.wires) a i → (root : Node) × (slice_get roots (slice_index label i) ≡ Some root) × Linked (is_link nets) root a × (node_cmp a root ≡ Less → ⊥)
  root_of a i at_a =
      let (root, at, linked, before) = h.reached i at_a.vertex at_a.at in (
        root,
        at,
        linked_trans (is_link nets) root (corner at_a.vertex) a linked (touch_linked nets (corner at_a.vertex) a (corner_linked nets ordered a i at_a)),
        not_before (corner at_a.vertex) a root (corner_least at_a.vertex a at_a.has) before,
      )

  pub root_vertex : (k : ℕ) (r : Node) → slice_get roots k ≡ Some r → (i : ℕ) × IsVertexAt (vertices_of 0 nets.wires) r i × (slice_index label i ≡ k)
  root_vertex k r at =
      let (i, u, at_i, is_k, is_r) = h.own k r at in
      (i, record { vertex = u; at = at_i; has = subst (λ (x : Node). is_at u x ≡ true) is_r (has_corner u (ordered.strip i u at_i)) }, is_k)

  pub roots_are : AreNetRoots nets roots
  roots_are = record {
    least = λ k r at.
        let (i, at_i, is_k) = root_vertex k r at in
        record {
          thing = node_of nets r i at_i;
          least = λ b linked less.
              let (j, at_j) = node_vertex nets b (linked_node nets r b (node_of nets r i at_i) linked) in
              let (root, at_root, to_b, before) = root_of b j at_j in
              let same : slice_index label j ≡ k = sym (one_label r b i j linked at_i at_j) ∙ is_k in
              let one : root ≡ r = some_one root r (sym at_root ∙ ap (λ n. slice_get roots n) same ∙ at) in
              before (subst (λ (x : Node). node_cmp b x ≡ Less) (sym one) less);
        };
    every = λ a node.
        let (i, at_i) = node_vertex nets a node in
        let (root, at_root, linked, before) = root_of a i at_i in
        (slice_index label i, root, at_root, linked_sym (is_link nets) root a linked);
    rising = h.rising;
  }

  pub number_of : (a : Node) (i : ℕ) → IsVertexAt (vertices_of 0 nets.wires) a i → IsNetNumber nets a (slice_index label i)
  number_of a i at_i =
      let (root, at_root, linked, before) = root_of a i at_i in
      record { roots = roots; are = roots_are; root = root; at = at_root; thing = node_of nets a i at_i; linked = linked_sym (is_link nets) root a linked }

  pub count_of : IsNetCount nets (length roots)
  count_of = record { roots = roots; are = roots_are; is = refl }

  pub number_is : (a : Node) (i n : ℕ) → IsVertexAt (vertices_of 0 nets.wires) a i → IsNetNumber nets a n → slice_index label i ≡ n
  number_is a i n at_i number = net_one nets a a (slice_index label i) n (number_of a i at_i) number (linked_refl (is_link nets) a)

  pub label_below : (i : ℕ) (u : Vertex) → slice_get (vertices_of 0 nets.wires) i ≡ Some u → slice_index label i < length roots
  label_below i u at = let (root, at_root, linked, before) = h.reached i u at in slice_get_within roots (slice_index label i) root at_root

  -- ---- regions

  module _ (regions : List (List Strip)) (parts : AreParts (vertices_of 0 nets.wires) label (length roots) (length nets.wires) (length (vertices_of 0 nets.wires)) regions) where
    pub region_is : (net wire : ℕ) (r : List Strip) → net < length roots → wire < length nets.wires → slice_get regions (net * length nets.wires + wire) ≡ Some r → IsRegionOf nets net wire r
    region_is net wire r net_in wire_in at = record {
      inside = λ x y has.
          let (k, s, at_k, in_s) = strip_with r x y has in
          let (i, lt, at_i, is_net) = parts.inside net wire r k s net_in wire_in at at_k in
          let at_node : IsVertexAt (vertices_of 0 nets.wires) (node_at wire x y) i = record { vertex = record { wire = wire; strip = s }; at = at_i; has = and_from (wire == wire) (is_in_strip s x y) (eq-eqb wire wire refl) in_s } in
          subst (λ n. IsNetNumber nets (node_at wire x y) n) is_net (number_of (node_at wire x y) i at_node);
      whole = λ x y number.
          let (i, at_i) = node_vertex nets (node_at wire x y) number.thing in
          let is_net = number_is (node_at wire x y) i net at_i number in
          let v = at_i.vertex in
          let (is_wire, in_s) = and_parts (v.wire == wire) (is_in_strip v.strip x y) at_i.has in
          let place : slice_index label i * length nets.wires + v.wire ≡ net * length nets.wires + wire = ap (λ n. n * length nets.wires + v.wire) is_net ∙ ap (λ n. net * length nets.wires + n) (eqb-true v.wire wire is_wire) in
          let (k, at_k) = parts.whole i v r (slice_get_within (vertices_of 0 nets.wires) i v at_i.at) at_i.at (ap (λ n. slice_get regions n) place ∙ at) in
          in_region r k v.strip x y at_k in_s;
    }

    pub regions_are : AreRegionsOf nets regions
    regions_are = record { count = length roots; is_count = count_of; each = parts.each; region = region_is }

-- ---- bounds

pub labels_below : (nets : Nets) (label : List ℕ) (roots : List Node) → IsTraced nets label roots → All (λ n. n < length roots) label
labels_below nets label roots h k d lt =
    let at : slice_get (vertices_of 0 nets.wires) k ≡ Some (get_or (vertices_of 0 nets.wires) k none) = slice_get-get_or (vertices_of 0 nets.wires) k none (omega (arith, lt, h.each)) in
    let (root, at_root, linked, before) = h.reached k (get_or (vertices_of 0 nets.wires) k none) at in
    let same : get_or label k d ≡ slice_index label k = get_or_from_slice_get label k (get_or label k 0) d (slice_get-get_or label k 0 lt) in
    omega (arith, same, slice_get_within roots (slice_index label k) root at_root)
  where
    none : Vertex
    none = record { wire = 0; strip = record { y0 = pos 0; y1 = pos 0; x0 = pos 0; x1 = pos 0 } }

pub wires_below : (wires : List (List Strip)) → All (λ v. v.wire < length wires) (vertices_of 0 wires)
wires_below wires k d lt =
    let (w, r, j, same, at_w, at_j) = of_wire 0 wires k (get_or (vertices_of 0 wires) k d) (slice_get-get_or (vertices_of 0 wires) k d lt) in
    omega (arith, same, slice_get_within wires w r at_w)

-- the parts, by what they were made of
pub parts_moved : (from to : List Vertex) (label : List ℕ) (count wires nets each : ℕ) (regions : List (List Strip)) → from ≡ to → count ≡ nets → wires ≡ each → AreParts from label count wires (length from) regions → AreParts to label nets each (length to) regions
parts_moved from to label count wires nets each regions same_v same_n same_w h =
    subst (λ (l : List Vertex). AreParts l label nets each (length l) regions) same_v (subst (λ n. AreParts from label n each (length from) regions) same_n (subst (λ n. AreParts from label count n (length from) regions) same_w h))

-- ---- what the calls read

read_at : {A : Type 0} (xs : List A) (k : ℕ) (x d : A) → k < length xs → x ≡ get_or xs k d → slice_get xs k ≡ Some x
read_at xs k x d lt is = slice_get-get_or xs k d lt ∙ ap (λ y. Some y) (sym is)

pub number_read : (nets : Nets) (label : List ℕ) (roots : List Node) → AreAllBanded nets.wires → IsTraced nets label roots → (a : Node) (i n d : ℕ) → IsVertexAt (vertices_of 0 nets.wires) a i → n ≡ get_or label i d → IsNetNumber nets a n
number_read nets label roots banded h a i n d at_i is =
    let lt : i < length label = omega (arith, h.each, slice_get_within (vertices_of 0 nets.wires) i at_i.vertex at_i.at) in
    let same : slice_index label i ≡ n = get_or_from_slice_get label i n 0 (read_at label i n d lt is) in
    subst (λ m. IsNetNumber nets a m) same (number_of nets label roots banded h a i at_i)

pub region_place : (nets : Nets) (label : List ℕ) (roots : List Node) (regions : List (List Strip)) (each net wire : ℕ) → AreParts (vertices_of 0 nets.wires) label (length roots) (length nets.wires) (length (vertices_of 0 nets.wires)) regions
    → each ≡ length nets.wires → net < length roots → wire < length nets.wires → net * each + wire < length regions
region_place nets label roots regions each net wire parts same net_in wire_in =
    subst (λ n. net * n + wire < length regions) (sym same) (omega (arith, parts.each, place_in (length roots) (length nets.wires) net wire net_in wire_in))

pub region_read : (nets : Nets) (label : List ℕ) (roots : List Node) → AreAllBanded nets.wires → IsTraced nets label roots → (regions : List (List Strip)) (each net wire : ℕ) (r d : List Strip)
    → AreParts (vertices_of 0 nets.wires) label (length roots) (length nets.wires) (length (vertices_of 0 nets.wires)) regions → each ≡ length nets.wires → net < length roots → wire < length nets.wires
    → r ≡ get_or regions (net * each + wire) d → IsRegionOf nets net wire r
region_read nets label roots banded h regions each net wire r d parts same net_in wire_in is =
    let lt = region_place nets label roots regions each net wire parts same net_in wire_in in
    region_is nets label roots banded h regions parts net wire r net_in wire_in (ap (λ n. slice_get regions (net * n + wire)) (sym same) ∙ read_at regions (net * each + wire) r d lt is)
