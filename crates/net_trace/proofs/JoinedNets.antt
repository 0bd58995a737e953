-- The classes of nets, by the pairs that are joined, are the nets where those are joined too.
use Rattle.std.proofs.Common.{◌≡◌, ℕ, zero, suc, ◌<◌, ◌≤◌, ◌⊎◌, true, ◌&&◌, ◌==◌, List, [], ◌∷◌, ◌++◌, length, refl, sym, ap, ◌∙◌, subst, arith, inl, inr, slice_get, slice_index, get_or, Some}
use Rattle.std.specs.Prelude.{ℤ, pos}
use Rattle.std.specs.Ordering.{int_eq}
use Rattle.std.specs.List.{AllZip}
use Rattle.std.specs.declared.cmp.Ordering.TheVariants.{Less}
use Rattle.std.proofs.lemmas.Bool.{cases_order, and_parts, and_from, eqb-true, eq-eqb, or_left, or_right}
use Rattle.std.proofs.lemmas.Int.{ints}
use Rattle.std.proofs.lemmas.List.Folds.{Any-from_list_any, list_any-from_Any, list_any-append}
use Rattle.std.proofs.lemmas.Option.{slice_get_within, slice_get_read, slice_get-get_or, get_or_from_slice_get}
use Rattle.link_classes.specs.Linked.{Linked}
use Rattle.link_classes.specs.Classes.{has_pair, AreClasses}
use Rattle.link_classes.proofs.Chains.{linked_touch, linked_trans, linked_map}
use Rattle.link_classes.proofs.UniqueNumbers.{some_one, no_some}
use Rattle.net_trace.specs.declared.node.Node.{Node}
use Rattle.net_trace.specs.declared.wiring.Vertex.{Vertex}
use Rattle.net_trace.specs.Touching.{Nets, is_node, touches}
use Rattle.net_trace.specs.Nets.{node_cmp, is_same, is_joined, is_link}
use Rattle.net_trace.specs.Wirings.{corner, vertices_of, AreAllBanded, AreOrdered, IsVertexAt, IsTraced, ArePicked, AreRenumbered}
use Rattle.net_trace.proofs.VertexLists.{vertices_ordered}
use Rattle.net_trace.proofs.VertexFacts.{node_of, one_vertex}
use Rattle.net_trace.proofs.TracedNets.{not_before, root_vertex}
use Rattle.net_trace.proofs.TracedStart.{less_both}
use Rattle.mask_region.proofs.Within.{or_cases}

-- the nodes of an end are the least ones of the two nets of its pair
abbrev IsEnd : List Node → ℕ × ℕ → Node × Node → Type 0
IsEnd roots p e = (slice_get roots p.0 ≡ Some e.0) × (slice_get roots p.1 ≡ Some e.1)

pair_of : (roots : List Node) (pairs : List (ℕ × ℕ)) (ends : List (Node × Node)) (k : ℕ) (e : Node × Node) → AllZip (IsEnd roots) pairs ends → slice_get ends k ≡ Some e → (p : ℕ × ℕ) × (slice_get pairs k ≡ Some p) × IsEnd roots p e
pair_of roots [] [] k e h at = no_some e at
pair_of roots [] (f ∷ ends) k e h at = absurd h
pair_of roots (p ∷ pairs) [] k e h at = absurd h
pair_of roots (p ∷ pairs) (f ∷ ends) zero e h at = (p, refl, subst (λ (x : Node × Node). IsEnd roots p x) (some_one f e at) h.0)
pair_of roots (p ∷ pairs) (f ∷ ends) (suc k) e h at = pair_of roots pairs ends k e h.1 at

end_of : (roots : List Node) (pairs : List (ℕ × ℕ)) (ends : List (Node × Node)) (k : ℕ) (p : ℕ × ℕ) → AllZip (IsEnd roots) pairs ends → slice_get pairs k ≡ Some p → (e : Node × Node) × (slice_get ends k ≡ Some e) × IsEnd roots p e
end_of roots [] ends k p h at = no_some p at
end_of roots (q ∷ pairs) [] k p h at = absurd h
end_of roots (q ∷ pairs) (f ∷ ends) zero p h at = (f, refl, subst (λ (x : ℕ × ℕ). IsEnd roots x f) (some_one q p at) h.0)
end_of roots (q ∷ pairs) (f ∷ ends) (suc k) p h at = end_of roots pairs ends k p h.1 at

pub same_is : (a b : Node) → is_same a b ≡ true → a ≡ b
same_is a b is =
    let (wire, cell) = and_parts (a.wire == b.wire) (int_eq a.x b.x && int_eq a.y b.y) is in
    let (column, row) = and_parts (int_eq a.x b.x) (int_eq a.y b.y) cell in
    let w : a.wire ≡ b.wire = eqb-true a.wire b.wire wire in
    let x : a.x ≡ b.x = one a.x b.x column in
    let y : a.y ≡ b.y = one a.y b.y row in
    λ i. record { wire = w i; x = x i; y = y i }
  where
    one : (m n : ℤ) → int_eq m n ≡ true → m ≡ n
    one m n h = grind (arith, ints, h)

pub same_self : (a : Node) → is_same a a ≡ true
same_self a = and_from (a.wire == a.wire) (int_eq a.x a.x && int_eq a.y a.y) (eq-eqb a.wire a.wire refl) (cell a.x a.y)
  where
    cell : (x y : ℤ) → (int_eq x x && int_eq y y) ≡ true
    cell x y = grind (arith, ints)

module _ (nets : Nets) (label : List ℕ) (roots : List Node) (banded : AreAllBanded nets.wires) (h : IsTraced nets label roots) (pairs : List (ℕ × ℕ)) (ends : List (Node × Node)) (at_ends : AllZip (IsEnd roots) pairs ends)
    (second least new_label : List ℕ) (new_roots : List Node) (classes : AreClasses (length roots) (has_pair pairs) second least) (numbered : AreRenumbered second label (length label) new_label) (picked : ArePicked roots least (length least) new_roots) where
  abbrev new : Nets
  new = record { wires = nets.wires; cuts = nets.cuts; joins = nets.joins ++ ends }

  ordered : AreOrdered (vertices_of 0 nets.wires)
  ordered = vertices_ordered nets.wires banded

  no_node : Node
  no_node = record { wire = 0; x = pos 0; y = pos 0 }

  joined_either : (a b : Node) → is_joined (nets.joins ++ ends) a b ≡ true → (is_joined nets.joins a b ≡ true) ⊎ (is_joined ends a b ≡ true)
  joined_either a b is = or_cases (is_joined nets.joins a b) (is_joined ends a b) (sym (list_any-append (λ (j : Node × Node). is_same a j.0 && is_same b j.1) nets.joins ends) ∙ is)

  joined_old : (a b : Node) → is_joined nets.joins a b ≡ true → is_joined (nets.joins ++ ends) a b ≡ true
  joined_old a b is = list_any-append (λ (j : Node × Node). is_same a j.0 && is_same b j.1) nets.joins ends ∙ or_left (is_joined nets.joins a b) (is_joined ends a b) is

  joined_new : (a b : Node) → is_joined ends a b ≡ true → is_joined (nets.joins ++ ends) a b ≡ true
  joined_new a b is = list_any-append (λ (j : Node × Node). is_same a j.0 && is_same b j.1) nets.joins ends ∙ or_right (is_joined nets.joins a b) (is_joined ends a b) is

  kept_link : (a b : Node) → is_link nets a b ≡ true → is_link new a b ≡ true
  kept_link a b is = elim (or_cases (touches nets a b) ((is_node nets a && is_node nets b) && is_joined nets.joins a b) is) [
    | inl touch ↦ or_left (touches nets a b) ((is_node nets a && is_node nets b) && is_joined (nets.joins ++ ends) a b) touch
    | inr join ↦ let (nodes, joined) = and_parts (is_node nets a && is_node nets b) (is_joined nets.joins a b) join in
        or_right (touches nets a b) ((is_node nets a && is_node nets b) && is_joined (nets.joins ++ ends) a b) (and_from (is_node nets a && is_node nets b) (is_joined (nets.joins ++ ends) a b) nodes (joined_old a b joined))
  ]

  kept_linked : (a b : Node) → Linked (is_link nets) a b → Linked (is_link new) a b
  kept_linked a b linked = linked_map (is_link nets) (is_link new) (λ c. c) (λ c d is. linked_touch (is_link new) c d (kept_link c d is)) a b linked

  root_node : (k : ℕ) (r : Node) → slice_get roots k ≡ Some r → is_node nets r ≡ true
  root_node k r at = let (i, at_i, is_k) = root_vertex nets label roots banded h k r at in node_of nets r i at_i

  root_label : (k i : ℕ) (r : Node) → slice_get roots k ≡ Some r → IsVertexAt (vertices_of 0 nets.wires) r i → slice_index label i ≡ k
  root_label k i r at at_r = let (j, at_j, is_k) = root_vertex nets label roots banded h k r at in ap (λ n. slice_index label n) (one_vertex (vertices_of 0 nets.wires) r i j ordered at_r at_j) ∙ is_k

  label_in : (i : ℕ) (u : Vertex) → slice_get (vertices_of 0 nets.wires) i ≡ Some u → i < length label
  label_in i u at = omega (arith, h.each, slice_get_within (vertices_of 0 nets.wires) i u at)

  new_is : (i : ℕ) (u : Vertex) → slice_get (vertices_of 0 nets.wires) i ≡ Some u → slice_index new_label i ≡ slice_index second (slice_index label i)
  new_is i u at = numbered.at i (label_in i u at)

  ends_one : (a b : Node) (i j : ℕ) → IsVertexAt (vertices_of 0 nets.wires) a i → IsVertexAt (vertices_of 0 nets.wires) b j → is_joined ends a b ≡ true → slice_index second (slice_index label i) ≡ slice_index second (slice_index label j)
  ends_one a b i j at_a at_b is =
      let (k, e, lt, at, pass) = Any-from_list_any (λ (x : Node × Node). is_same a x.0 && is_same b x.1) ends is in
      let (first, last) = and_parts (is_same a e.0) (is_same b e.1) pass in
      let (p, at_p, two_ends) = pair_of roots pairs ends k e at_ends (slice_get_read ends (length ends) k e refl lt (sym at)) in
      let left : slice_index label i ≡ p.0 = root_label p.0 i a (two_ends.0 ∙ ap (λ x. Some x) (sym (same_is a e.0 first))) at_a in
      let right : slice_index label j ≡ p.1 = root_label p.1 j b (two_ends.1 ∙ ap (λ x. Some x) (sym (same_is b e.1 last))) at_b in
      ap (λ n. slice_index second n) left ∙ classes.shared p.0 p.1 (list_any-from_Any (λ (q : ℕ × ℕ). q.0 == p.0 && q.1 == p.1) pairs
      (k, p, slice_get_within pairs k p at_p, get_or_from_slice_get pairs k p p at_p, and_from (p.0 == p.0) (p.1 == p.1) (eq-eqb p.0 p.0 refl) (eq-eqb p.1 p.1 refl))) ∙ ap (λ n. slice_index second n) (sym right)

  pair_linked : (i j : ℕ) → has_pair pairs i j ≡ true → Linked (is_link new) (get_or roots i no_node) (get_or roots j no_node)
  pair_linked i j has =
      let (k, p, lt, at, pass) = Any-from_list_any (λ (q : ℕ × ℕ). q.0 == i && q.1 == j) pairs has in
      let (first, last) = and_parts (p.0 == i) (p.1 == j) pass in
      let (e, at_e, two_ends) = end_of roots pairs ends k p at_ends (slice_get_read pairs (length pairs) k p refl lt (sym at)) in
      let from : slice_get roots i ≡ Some e.0 = ap (λ n. slice_get roots n) (sym (eqb-true p.0 i first)) ∙ two_ends.0 in
      let to : slice_get roots j ≡ Some e.1 = ap (λ n. slice_get roots n) (sym (eqb-true p.1 j last)) ∙ two_ends.1 in
      let joined : is_joined ends e.0 e.1 ≡ true = list_any-from_Any (λ (x : Node × Node). is_same e.0 x.0 && is_same e.1 x.1) ends
      (k, e, slice_get_within ends k e at_e, get_or_from_slice_get ends k e e at_e, and_from (is_same e.0 e.0) (is_same e.1 e.1) (same_self e.0) (same_self e.1)) in
      let link : is_link new e.0 e.1 ≡ true = or_right (touches nets e.0 e.1) ((is_node nets e.0 && is_node nets e.1) && is_joined (nets.joins ++ ends) e.0 e.1)
      (and_from (is_node nets e.0 && is_node nets e.1) (is_joined (nets.joins ++ ends) e.0 e.1) (and_from (is_node nets e.0) (is_node nets e.1) (root_node i e.0 from) (root_node j e.1 to)) (joined_new e.0 e.1 joined)) in
      subst (λ (x : Node). Linked (is_link new) x (get_or roots j no_node)) (sym (get_or_from_slice_get roots i e.0 no_node from))
      (subst (λ (x : Node). Linked (is_link new) e.0 x) (sym (get_or_from_slice_get roots j e.1 no_node to)) (linked_touch (is_link new) e.0 e.1 link))

  picked_at : (k : ℕ) → k < length least → slice_get new_roots k ≡ Some (get_or roots (slice_index least k) no_node)
  picked_at k lt = picked.at k lt ∙ slice_get-get_or roots (slice_index least k) no_node (classes.inside k lt)

  picked_in : (k : ℕ) (r : Node) → slice_get new_roots k ≡ Some r → k < length least
  picked_in k r at = omega (arith, slice_get_within new_roots k r at, picked.each)

  picked_from : (k : ℕ) (r : Node) → slice_get new_roots k ≡ Some r → slice_get roots (slice_index least k) ≡ Some r
  picked_from k r at = sym (picked.at k (picked_in k r at)) ∙ at

  in_order : (i j : ℕ) (q r : Node) → i ≤ j → slice_get roots i ≡ Some q → slice_get roots j ≡ Some r → node_cmp r q ≡ Less → ⊥
  in_order i j q r le at_q at_r less = elim (cases_order i j) [
    | inl same ↦ let one : q ≡ r = some_one q r (sym at_q ∙ ap (λ n. slice_get roots n) same ∙ at_r) in
        less_both q q (subst (λ (x : Node). node_cmp x q ≡ Less) (sym one) less) (subst (λ (x : Node). node_cmp x q ≡ Less) (sym one) less)
    | inr (inl before) ↦ less_both r q less (h.rising i j q r before at_q at_r)
    | inr (inr after) ↦ absurd (omega (arith, le, after))
  ]

  pub traced_joined : IsTraced new new_label new_roots
  traced_joined = record {
    each = numbered.each ∙ h.each;
    shared = record { kept = λ a b i j at_a at_b is. new_is i at_a.vertex at_a.at ∙ one a b i j at_a at_b is ∙ sym (new_is j at_b.vertex at_b.at) };
    reached = λ i u at.
        let (root, at_root, linked, before) = h.reached i u at in
        let n = slice_index label i in
        let n_in = slice_get_within roots n root at_root in
        let c = slice_index second n in
        let c_in = classes.below n n_in in
        let l = slice_index least c in
        let same : get_or roots n no_node ≡ root = get_or_from_slice_get roots n root no_node at_root in (
          get_or roots l no_node,
          ap (λ m. slice_get new_roots m) (new_is i u at) ∙ picked_at c c_in,
          linked_trans (is_link new) (get_or roots l no_node) root (corner u)
              (subst (λ (x : Node). Linked (is_link new) (get_or roots l no_node) x) same (linked_map (has_pair pairs) (is_link new) (λ k. get_or roots k no_node) pair_linked l n (classes.reached n n_in)))
              (kept_linked root (corner u) linked),
          not_before root (corner u) (get_or roots l no_node) before (in_order l n (get_or roots l no_node) root (classes.first n n_in) (slice_get-get_or roots l no_node (classes.inside c c_in)) at_root),
        );
    own = λ k r at.
        let (i, u, at_i, is_l, is_r) = h.own (slice_index least k) r (picked_from k r at) in
        (i, u, at_i, new_is i u at_i ∙ ap (λ m. slice_index second m) is_l ∙ classes.own k (picked_in k r at), is_r);
    rising = λ j k q r lt at_q at_r. h.rising (slice_index least j) (slice_index least k) q r (classes.rising j k lt (picked_in k r at_r)) (picked_from j q at_q) (picked_from k r at_r);
  } where
    one : (a b : Node) (i j : ℕ) → IsVertexAt (vertices_of 0 nets.wires) a i → IsVertexAt (vertices_of 0 nets.wires) b j → is_link new a b ≡ true → slice_index second (slice_index label i) ≡ slice_index second (slice_index label j)
    one a b i j at_a at_b is = elim (or_cases (touches nets a b) ((is_node nets a && is_node nets b) && is_joined (nets.joins ++ ends) a b) is) [
      | inl touch ↦ ap (λ n. slice_index second n) (h.shared.kept a b i j at_a at_b (or_left (touches nets a b) ((is_node nets a && is_node nets b) && is_joined nets.joins a b) touch))
      | inr join ↦ let (nodes, joined) = and_parts (is_node nets a && is_node nets b) (is_joined (nets.joins ++ ends) a b) join in elim (joined_either a b joined) [
        | inl old ↦ ap (λ n. slice_index second n) (h.shared.kept a b i j at_a at_b (or_right (touches nets a b) ((is_node nets a && is_node nets b) && is_joined nets.joins a b) (and_from (is_node nets a && is_node nets b) (is_joined nets.joins a b) nodes old)))
        | inr more ↦ ends_one a b i j at_a at_b more
      ]
    ]
