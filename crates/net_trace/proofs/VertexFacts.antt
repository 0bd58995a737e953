-- Nodes and the strips that have them.
use Rattle.std.proofs.Common.{◌≡◌, ℕ, ◌+◌, true, ◌==◌, List, length, refl, sym, ap, ◌∙◌, arith, inl, inr, slice_get, Some, None, Option}
use Rattle.std.proofs.lemmas.Bool.{cases_order, and_parts, and_from, eqb-true, eq-eqb}
use Rattle.std.proofs.lemmas.Int.{ints, by_lt_z}
use Rattle.std.proofs.lemmas.List.Folds.{Any-from_list_any, list_any-from_Any}
use Rattle.std.proofs.lemmas.Option.{slice_get_within, slice_get_read, get_or_from_slice_get}
use Rattle.std.specs.Prelude.{ℤ, ◌<ℤ◌}
use Rattle.mask_region.specs.declared.strips.Strip.{Strip}
use Rattle.mask_region.specs.Strips.{is_in_strip, is_in, IsStrip, Follows, HasCellAt}
use Rattle.net_trace.specs.declared.node.Node.{Node}
use Rattle.net_trace.specs.declared.wiring.Vertex.{Vertex}
use Rattle.net_trace.specs.Touching.{Nets, is_in_wire, is_node}
use Rattle.net_trace.specs.Wirings.{is_at, corner, vertices_of, start_of, IsVertexAt, IsBehind, AreOrdered}
use Rattle.net_trace.proofs.VertexLists.{at_start, of_wire}

-- a region has a cell where one of its strips has it
pub in_region : (r : List Strip) (k : ℕ) (s : Strip) (x y : ℤ) → slice_get r k ≡ Some s → is_in_strip s x y ≡ true → is_in r x y ≡ true
in_region r k s x y at has = list_any-from_Any (λ s. is_in_strip s x y) r (k, s, slice_get_within r k s at, get_or_from_slice_get r k s s at, has)

pub strip_with : (r : List Strip) (x y : ℤ) → is_in r x y ≡ true → (k : ℕ) × (s : Strip) × (slice_get r k ≡ Some s) × (is_in_strip s x y ≡ true)
strip_with r x y has =
    let (k, s, lt, is, pass) = Any-from_list_any (λ s. is_in_strip s x y) r has in
    (k, s, slice_get_read r (length r) k s refl lt (sym is), pass)

pub wire_has : (wires : List (List Strip)) (w : ℕ) (r : List Strip) (x y : ℤ) → slice_get wires w ≡ Some r → is_in r x y ≡ true → is_in_wire (slice_get wires w) x y ≡ true
wire_has wires w r x y at has = ap (λ o. is_in_wire o x y) at ∙ has

pub by_wire : (o : Option (List Strip)) (x y : ℤ) → is_in_wire o x y ≡ true → (r : List Strip) × (o ≡ Some r) × (is_in r x y ≡ true)
by_wire None x y has = let none : ⊥ = cc in absurd none
by_wire (Some r) x y has = (r, refl, has)

-- the strip at a cell of a wire has an index, and has the cell's node
pub found_at : (wires : List (List Strip)) (w : ℕ) (r : List Strip) (x y : ℤ) (k : ℕ) → slice_get wires w ≡ Some r → HasCellAt r x y k
    → IsVertexAt (vertices_of 0 wires) (record { wire = w; x = x; y = y }) (start_of wires w + k)
found_at wires w r x y k at h = record {
  vertex = record { wire = w; strip = h.strip };
  at = at_start 0 wires w r k h.strip at h.at ∙ ap (λ n. Some (record { wire = n; strip = h.strip })) (omega arith);
  has = and_from (w == w) (is_in_strip h.strip x y) (eq-eqb w w refl) h.has;
}

module _ (nets : Nets) where
  -- each node has its strip
  pub node_vertex : (a : Node) → is_node nets a ≡ true → (i : ℕ) × IsVertexAt (vertices_of 0 nets.wires) a i
  node_vertex a node =
      let (r, at, has) = by_wire (slice_get nets.wires a.wire) a.x a.y node in
      let (k, s, at_k, pass) = strip_with r a.x a.y has in
      (start_of nets.wires a.wire + k, found_at nets.wires a.wire r a.x a.y k at (record { strip = s; at = at_k; has = pass }))

  moved_node : (a : Node) (w : ℕ) → w ≡ a.wire → is_in_wire (slice_get nets.wires w) a.x a.y ≡ true → is_node nets a ≡ true
  moved_node a w same has = ap (λ n. is_in_wire (slice_get nets.wires n) a.x a.y) (sym same) ∙ has

  pub vertex_node : (a : Node) (i : ℕ) (v : Vertex) → slice_get (vertices_of 0 nets.wires) i ≡ Some v → is_at v a ≡ true → is_node nets a ≡ true
  vertex_node a i v at has =
      let (w, r, k, same, at_w, at_k) = of_wire 0 nets.wires i v at in
      let (wire, cell) = and_parts (v.wire == a.wire) (is_in_strip v.strip a.x a.y) has in
      moved_node a w (omega (arith, same, eqb-true v.wire a.wire wire)) (wire_has nets.wires w r a.x a.y at_w (in_region r k v.strip a.x a.y at_k cell))

  pub node_of : (a : Node) (i : ℕ) → IsVertexAt (vertices_of 0 nets.wires) a i → is_node nets a ≡ true
  node_of a i h = vertex_node a i h.vertex h.at h.has

-- ---- a node is in one strip

not_both : {P : Type 0} (u v : Vertex) (a : Node) → IsBehind u v → is_at u a ≡ true → is_at v a ≡ true → P
not_both u v a (inl later) at_u at_v =
    let (wu, cu) = and_parts (u.wire == a.wire) (is_in_strip u.strip a.x a.y) at_u in
    let (wv, cv) = and_parts (v.wire == a.wire) (is_in_strip v.strip a.x a.y) at_v in
    absurd (omega (arith, later, eqb-true u.wire a.wire wu, eqb-true v.wire a.wire wv))
not_both u v a (inr (same, f)) at_u at_v =
    let (wu, cu) = and_parts (u.wire == a.wire) (is_in_strip u.strip a.x a.y) at_u in
    let (wv, cv) = and_parts (v.wire == a.wire) (is_in_strip v.strip a.x a.y) at_v in
    absurd (apart u.strip v.strip a.x a.y f cu cv)
  where
    apart : (s t : Strip) (x y : ℤ) → Follows s t → is_in_strip s x y ≡ true → is_in_strip t x y ≡ true → ⊥
    apart s t x y f has_s has_t = by_lt_z s.y0 t.y0
        (λ up. let far = f.apart up in grind (arith, ints, has_s, has_t))
        (λ level. let equal : s.y0 ≡ t.y0 = omega (arith, ints, f.later) in let right = f.right equal in grind (arith, ints, has_s, has_t))

pub one_vertex : (vertices : List Vertex) (a : Node) (i j : ℕ) → AreOrdered vertices → IsVertexAt vertices a i → IsVertexAt vertices a j → i ≡ j
one_vertex vertices a i j ordered one two = elim (cases_order i j) [
  | inl same ↦ same
  | inr (inl less) ↦ not_both one.vertex two.vertex a (ordered.behind i j one.vertex two.vertex less one.at two.at) one.has two.has
  | inr (inr more) ↦ not_both two.vertex one.vertex a (ordered.behind j i two.vertex one.vertex more two.at one.at) two.has one.has
]

-- a strip has its least node
pub has_corner : (v : Vertex) → IsStrip v.strip → is_at v (corner v) ≡ true
has_corner v strip = let wide = strip.wide in let high = strip.high in and_from (v.wire == v.wire) (is_in_strip v.strip v.strip.x0 v.strip.y0) (eq-eqb v.wire v.wire refl) (first_cell v.strip wide high)
  where
    first_cell : (s : Strip) → s.x0 <ℤ s.x1 → s.y0 <ℤ s.y1 → is_in_strip s s.x0 s.y0 ≡ true
    first_cell s wide high = grind (arith, ints)
