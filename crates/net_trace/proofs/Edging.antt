-- Pairs of strips that link what touches, along wires and through the first cuts.
use Rattle.std.proofs.Common.{◌≡◌, ℕ, ◌+◌, ◌<◌, ◌≤◌, true, ◌&&◌, ◌||◌, ◌==◌, List, [], length, refl, sym, ap, ◌∙◌, subst, arith, inl, inr, slice_get, Some}
use Rattle.std.specs.Prelude.{ℤ, pos, ◌+ℤ◌, ◌-ℤ◌, ◌<ℤ◌, ◌≤ℤ◌}
use Rattle.std.specs.List.{All, list_any}
use Rattle.std.specs.Ordering.{int_eq}
use Rattle.std.proofs.lemmas.Bool.{cases_order, and_parts, and_from, eqb-true, eq-eqb, or_right}
use Rattle.std.proofs.lemmas.Int.{ints, by_lt_z}
use Rattle.std.proofs.lemmas.List.Elements.{All-append, All-weaker}
use Rattle.std.proofs.lemmas.List.Folds.{Any-from_list_any, list_any-from_Any}
use Rattle.std.proofs.lemmas.Option.{slice_get_within, slice_get_read, get_or_from_slice_get}
use Rattle.link_classes.specs.Linked.{Linked}
use Rattle.link_classes.proofs.Chains.{linked_touch, linked_trans, linked_sym}
use Rattle.link_classes.proofs.Pairs.{pair_shared}
use Rattle.link_classes.proofs.UniqueNumbers.{some_one}
use Rattle.mask_region.specs.declared.strips.Strip.{Strip}
use Rattle.mask_region.specs.Strips.{is_in_strip, is_in, IsStrip, Follows}
use Rattle.net_trace.specs.declared.node.Node.{Node}
use Rattle.net_trace.specs.declared.wiring.Vertex.{Vertex}
use Rattle.net_trace.specs.Touching.{Cut, Nets, is_node, is_beside, is_along, is_listed, is_cut_at, is_through, touches}
use Rattle.net_trace.specs.Nets.{node_at}
use Rattle.net_trace.specs.Wirings.{is_at, corner, vertices_of, IsVertexAt, IsBehind, AreOrdered, is_meeting, is_below, IsBelowPair, AreBands, IsSound, AreShared, IsSharedAlong, is_along_wire, AreEdges, AreOneUnder, IsTieOf, AreTied}
use Rattle.net_trace.proofs.Lists.{all_left, all_right}
use Rattle.net_trace.proofs.VertexFacts.{node_of}
use Rattle.net_trace.proofs.Values.{corner_linked, along_touches}
use Rattle.mask_region.proofs.Within.{or_cases}

pub record AreEdgesTo (wires : List (List Strip)) (cuts : List Cut) (n : ℕ) (pairs : List (ℕ × ℕ)) : Type 0 where
  pub sound : All (IsSound (record { wires = wires; cuts = cuts; joins = [] }) (vertices_of 0 wires)) pairs
  pub along : (value : ℕ → ℕ) → AreShared pairs value → IsSharedAlong (is_along_wire wires) (vertices_of 0 wires) value
  pub through : (value : ℕ → ℕ) → AreShared pairs value → (k : ℕ) (c : Cut) → k < n → slice_get cuts k ≡ Some c
      → (from to : ℕ) → is_listed c.wires from ≡ true → is_listed c.wires to ≡ true → AreOneUnder wires c.region value from to

-- ---- strips of which the one lies on the other

module _ (s t : Strip) (strip_s : IsStrip s) (strip_t : IsStrip t) (level : s.y1 ≡ t.y0) (meeting : is_meeting s.x0 s.x1 t.x0 t.x1 ≡ true) where
  column : (x : ℤ) × (is_in_strip s x (s.y1 -ℤ pos 1) ≡ true) × (is_in_strip t x t.y0 ≡ true) × (is_beside x (s.y1 -ℤ pos 1) x t.y0 ≡ true)
  column = by_lt_z s.x0 t.x0
      (λ less. (t.x0, lower t.x0 less, upper t.x0 less, above t.x0))
      (λ more. (s.x0, lower' more, upper' more, above s.x0))
    where
      above : (x : ℤ) → is_beside x (s.y1 -ℤ pos 1) x t.y0 ≡ true
      above x = grind (arith, ints, level)

      lower : (x : ℤ) → s.x0 <ℤ t.x0 → is_in_strip s t.x0 (s.y1 -ℤ pos 1) ≡ true
      lower x less = let high = strip_s.high in grind (arith, ints, meeting)

      upper : (x : ℤ) → s.x0 <ℤ t.x0 → is_in_strip t t.x0 t.y0 ≡ true
      upper x less = let high = strip_t.high in let wide = strip_t.wide in grind (arith, ints)

      lower' : t.x0 ≤ℤ s.x0 → is_in_strip s s.x0 (s.y1 -ℤ pos 1) ≡ true
      lower' more = let high = strip_s.high in let wide = strip_s.wide in grind (arith, ints)

      upper' : t.x0 ≤ℤ s.x0 → is_in_strip t s.x0 t.y0 ≡ true
      upper' more = let high = strip_t.high in grind (arith, ints, meeting)

top_of : (r : Strip) (a b : ℤ) → is_in_strip r a b ≡ true → b <ℤ r.y1
top_of r a b h = grind (arith, ints, h)

bottom_of : (r : Strip) (a b : ℤ) → is_in_strip r a b ≡ true → r.y0 ≤ℤ b
bottom_of r a b h = grind (arith, ints, h)

left_of : (r : Strip) (a b : ℤ) → is_in_strip r a b ≡ true → r.x0 ≤ℤ a
left_of r a b h = grind (arith, ints, h)

right_of : (r : Strip) (a b : ℤ) → is_in_strip r a b ≡ true → a <ℤ r.x1
right_of r a b h = grind (arith, ints, h)

far_apart : (a b c d : ℤ) → (a +ℤ pos 1) <ℤ c → is_beside a b c d ≡ true → ⊥
far_apart a b c d far h = grind (arith, ints, h)

next_row : (a b c d : ℤ) → b <ℤ d → is_beside a b c d ≡ true → (c ≡ a) × (d ≡ b +ℤ pos 1)
next_row a b c d far h = (grind (arith, ints, h), grind (arith, ints, h))

equal_of : (m n : ℤ) → m ≡ n → int_eq m n ≡ true
equal_of m n e = grind (arith, ints, e)

meet_of : (k l m n : ℤ) → k <ℤ n → m <ℤ l → is_meeting k l m n ≡ true
meet_of k l m n e g = grind (arith, ints)

-- cells of two strips, the second behind the first, that share an edge: the second lies on the first
on_top : (s t : Strip) (x y i j : ℤ) → Follows s t → is_in_strip s x y ≡ true → is_in_strip t i j ≡ true → is_beside x y i j ≡ true
    → (int_eq s.y1 t.y0 && is_meeting s.x0 s.x1 t.x0 t.x1) ≡ true
on_top s t x y i j f has_s has_t beside = by_lt_z s.y0 t.y0
    (λ up. upper (f.apart up) (top_of s x y has_s) (bottom_of t i j has_t) (left_of s x y has_s) (right_of s x y has_s) (left_of t i j has_t) (right_of t i j has_t))
    (λ level. absurd (far_apart x y i j (gap_between (f.right (omega (arith, ints, f.later))) (right_of s x y has_s) (left_of t i j has_t)) beside))
  where
    gap_between : s.x1 <ℤ t.x0 → x <ℤ s.x1 → t.x0 ≤ℤ i → (x +ℤ pos 1) <ℤ i
    gap_between p q r = omega (arith, ints, p, q, r)

    upper : s.y1 ≤ℤ t.y0 → y <ℤ s.y1 → t.y0 ≤ℤ j → s.x0 ≤ℤ x → x <ℤ s.x1 → t.x0 ≤ℤ i → i <ℤ t.x1 → (int_eq s.y1 t.y0 && is_meeting s.x0 s.x1 t.x0 t.x1) ≡ true
    upper p q r a b c d =
        let (same, next) = next_row x y i j (omega (arith, ints, p, q, r)) beside in
        let level : s.y1 ≡ t.y0 = omega (arith, ints, p, q, r, next) in
        and_from (int_eq s.y1 t.y0) (is_meeting s.x0 s.x1 t.x0 t.x1) (equal_of s.y1 t.y0 level) (meet_of s.x0 s.x1 t.x0 t.x1 (omega (arith, ints, a, d, same)) (omega (arith, ints, b, c, same)))

beside_back : (x y i j : ℤ) → is_beside x y i j ≡ true → is_beside i j x y ≡ true
beside_back x y i j h = grind (arith, ints, h)

behind_below : (u v : Vertex) (a b : Node) → IsBehind u v → is_at u a ≡ true → is_at v b ≡ true → a.wire ≡ b.wire → is_beside a.x a.y b.x b.y ≡ true → is_below u v ≡ true
behind_below u v a b (inl later) at_u at_v same beside =
    let (wu, cu) = and_parts (u.wire == a.wire) (is_in_strip u.strip a.x a.y) at_u in
    let (wv, cv) = and_parts (v.wire == b.wire) (is_in_strip v.strip b.x b.y) at_v in
    absurd (omega (arith, later, same, eqb-true u.wire a.wire wu, eqb-true v.wire b.wire wv))
behind_below u v a b (inr (wire, f)) at_u at_v same beside =
    let (wu, cu) = and_parts (u.wire == a.wire) (is_in_strip u.strip a.x a.y) at_u in
    let (wv, cv) = and_parts (v.wire == b.wire) (is_in_strip v.strip b.x b.y) at_v in
    and_from (u.wire == v.wire) (int_eq u.strip.y1 v.strip.y0 && is_meeting u.strip.x0 u.strip.x1 v.strip.x0 v.strip.x1) (eq-eqb u.wire v.wire wire)
    (on_top u.strip v.strip a.x a.y b.x b.y f cu cv beside)

level_of : (y z : ℤ) → int_eq y z ≡ true → y ≡ z
level_of y z h = grind (arith, ints, h)

-- ---- along wires

module _ (wires : List (List Strip)) (cuts : List Cut) (ordered : AreOrdered (vertices_of 0 wires)) where
  abbrev nets : Nets
  nets = record { wires = wires; cuts = cuts; joins = [] }

  below_sound : (e : ℕ × ℕ) → IsBelowPair (vertices_of 0 wires) e → IsSound nets (vertices_of 0 wires) e
  below_sound e h = record { from = h.lower; to = h.upper; first = h.first; second = h.second; linked = linked } where
    linked : Linked (touches nets) (corner h.lower) (corner h.upper)
    linked =
        let u : Vertex = h.lower in
        let v : Vertex = h.upper in
        let (wire, on) = and_parts (u.wire == v.wire) (int_eq u.strip.y1 v.strip.y0 && is_meeting u.strip.x0 u.strip.x1 v.strip.x0 v.strip.x1) h.below in
        let (equal, meeting) = and_parts (int_eq u.strip.y1 v.strip.y0) (is_meeting u.strip.x0 u.strip.x1 v.strip.x0 v.strip.x1) on in
        let level : u.strip.y1 ≡ v.strip.y0 = level_of u.strip.y1 v.strip.y0 equal in
        let (x, in_u, in_v, beside) = column u.strip v.strip (ordered.strip e.0 u h.first) (ordered.strip e.1 v h.second) level meeting in
        let a : Node = node_at u.wire x (u.strip.y1 -ℤ pos 1) in
        let b : Node = node_at v.wire x v.strip.y0 in
        let at_a : IsVertexAt (vertices_of 0 wires) a e.0 = record { vertex = u; at = h.first; has = and_from (u.wire == u.wire) (is_in_strip u.strip x (u.strip.y1 -ℤ pos 1)) (eq-eqb u.wire u.wire refl) in_u } in
        let at_b : IsVertexAt (vertices_of 0 wires) b e.1 = record { vertex = v; at = h.second; has = and_from (v.wire == v.wire) (is_in_strip v.strip x v.strip.y0) (eq-eqb v.wire v.wire refl) in_v } in
        let step : is_along_wire wires a b ≡ true = and_from (is_node nets a && is_node nets b) (is_along a b) (and_from (is_node nets a) (is_node nets b) (node_of nets a e.0 at_a) (node_of nets b e.1 at_b))
        (and_from (u.wire == v.wire) (is_beside x (u.strip.y1 -ℤ pos 1) x v.strip.y0) wire beside) in
        linked_trans (touches nets) (corner u) a (corner v) (corner_linked nets ordered a e.0 at_a)
        (linked_trans (touches nets) a b (corner v) (linked_touch (touches nets) a b (along_touches nets ordered a b step)) (linked_sym (touches nets) (corner v) b (corner_linked nets ordered b e.1 at_b)))

  -- strips of touching cells of one wire have one value where the pairs of a band do
  pub bands_along : (pairs : List (ℕ × ℕ)) → AreBands (vertices_of 0 wires) pairs → (value : ℕ → ℕ) → AreShared pairs value → IsSharedAlong (is_along_wire wires) (vertices_of 0 wires) value
  bands_along pairs h value shared = record {
    kept = λ a b i j at_a at_b is.
        let (nodes, along) = and_parts (is_node nets a && is_node nets b) (is_along a b) is in
        let (wire, beside) = and_parts (a.wire == b.wire) (is_beside a.x a.y b.x b.y) along in
        let same = eqb-true a.wire b.wire wire in
        elim (cases_order i j) [
          | inl equal ↦ ap value equal
          | inr (inl less) ↦ pair_shared pairs value i j shared (h.whole i j at_a.vertex at_b.vertex at_a.at at_b.at
              (behind_below at_a.vertex at_b.vertex a b (ordered.behind i j at_a.vertex at_b.vertex less at_a.at at_b.at) at_a.has at_b.has same beside))
          | inr (inr more) ↦ sym (pair_shared pairs value j i shared (h.whole j i at_b.vertex at_a.vertex at_b.at at_a.at
              (behind_below at_b.vertex at_a.vertex b a (ordered.behind j i at_b.vertex at_a.vertex more at_b.at at_a.at) at_b.has at_a.has (sym same) (beside_back a.x a.y b.x b.y beside))))
        ];
  }

  pub edges_start : (pairs : List (ℕ × ℕ)) → AreBands (vertices_of 0 wires) pairs → AreEdgesTo wires cuts 0 pairs
  edges_start pairs h = record {
    sound = All-weaker (IsBelowPair (vertices_of 0 wires)) (IsSound nets (vertices_of 0 wires)) below_sound pairs h.sound;
    along = bands_along pairs h;
    through = λ value shared k c lt. absurd (omega (arith, lt));
  }

  -- ---- through cuts

  tie_sound : (n : ℕ) (c : Cut) → slice_get cuts n ≡ Some c → (e : ℕ × ℕ) → IsTieOf wires c e → IsSound nets (vertices_of 0 wires) e
  tie_sound n c at e h =
      let t = h.tie in
      let a : Node = node_at h.from t.x t.y in
      let b : Node = node_at h.to t.x t.y in
      let cut : is_cut_at a b c ≡ true = and_from (is_listed c.wires h.from && is_listed c.wires h.to) (is_in c.region t.x t.y)
      (and_from (is_listed c.wires h.from) (is_listed c.wires h.to) h.from_listed h.to_listed) t.through in
      let any : list_any (is_cut_at a b) cuts ≡ true = list_any-from_Any (is_cut_at a b) cuts (n, c, slice_get_within cuts n c at, get_or_from_slice_get cuts n c c at, cut) in
      let through : is_through cuts a b ≡ true = and_from (int_eq t.x t.x && int_eq t.y t.y) (list_any (is_cut_at a b) cuts) (same_cell t.x t.y) any in
      let step : touches nets a b ≡ true = and_from (is_node nets a && is_node nets b) (is_along a b || is_through cuts a b)
      (and_from (is_node nets a) (is_node nets b) (node_of nets a e.0 t.lower) (node_of nets b e.1 t.upper)) (or_right (is_along a b) (is_through cuts a b) through) in
      record {
        from = t.lower.vertex;
        to = t.upper.vertex;
        first = t.lower.at;
        second = t.upper.at;
        linked = linked_trans (touches nets) (corner t.lower.vertex) a (corner t.upper.vertex) (corner_linked nets ordered a e.0 t.lower)
            (linked_trans (touches nets) a b (corner t.upper.vertex) (linked_touch (touches nets) a b step) (linked_sym (touches nets) (corner t.upper.vertex) b (corner_linked nets ordered b e.1 t.upper)));
      }
    where
      same_cell : (x y : ℤ) → (int_eq x x && int_eq y y) ≡ true
      same_cell x y = grind (arith, ints)

  pub edges_more : (n : ℕ) (c : Cut) (old new : List (ℕ × ℕ)) → slice_get cuts n ≡ Some c → AreEdgesTo wires cuts n old → AreTied wires c old new → AreEdgesTo wires cuts (n + 1) new
  edges_more n c old new at h t = subst (λ l. AreEdgesTo wires cuts (n + 1) l) (sym t.added) (record {
    sound = All-append (IsSound nets (vertices_of 0 wires)) old t.more h.sound (All-weaker (IsTieOf wires c) (IsSound nets (vertices_of 0 wires)) (tie_sound n c at) t.more t.ties);
    along = λ value shared. h.along value (all_left (λ p. value p.0 ≡ value p.1) old t.more shared);
    through = λ value shared k d lt at_k from to in_from in_to.
        let first = all_left (λ p. value p.0 ≡ value p.1) old t.more shared in
        elim (cases_order k n) [
          | inl same ↦ by_cut d (some_one c d (sym at ∙ ap (λ m. slice_get cuts m) (sym same) ∙ at_k)) value first (all_right (λ p. value p.0 ≡ value p.1) old t.more shared) from to in_from in_to
          | inr (inl less) ↦ h.through value first k d less at_k from to in_from in_to
          | inr (inr more) ↦ absurd (omega (arith, lt, more))
        ];
  }) where
    by_cut : (d : Cut) → c ≡ d → (value : ℕ → ℕ) → AreShared old value → AreShared t.more value → (from to : ℕ) → is_listed d.wires from ≡ true → is_listed d.wires to ≡ true → AreOneUnder wires d.region value from to
    by_cut d same value first second = subst (λ (x : Cut). (from to : ℕ) → is_listed x.wires from ≡ true → is_listed x.wires to ≡ true → AreOneUnder wires x.region value from to) same
        (t.whole ordered value (h.along value first) second)

  pub edges_done : (n : ℕ) (pairs : List (ℕ × ℕ)) → length cuts ≤ n → AreEdgesTo wires cuts n pairs → AreEdges nets (vertices_of 0 wires) pairs
  edges_done n pairs le h = record {
    sound = h.sound;
    whole = λ value shared. record {
      kept = λ a b i j at_a at_b is.
          let (nodes, near) = and_parts (is_node nets a && is_node nets b) (is_along a b || is_through cuts a b) is in
          elim (or_cases (is_along a b) (is_through cuts a b) near) [
            | inl along ↦ (h.along value shared).kept a b i j at_a at_b (and_from (is_node nets a && is_node nets b) (is_along a b) nodes along)
            | inr through ↦ by_cut value shared a b i j at_a at_b through
          ];
    };
  } where
    one_cell : (x y i j : ℤ) → (int_eq x i && int_eq y j) ≡ true → (i ≡ x) × (j ≡ y)
    one_cell x y i j h = let (p, q) = and_parts (int_eq x i) (int_eq y j) h in (grind (arith, ints, p), grind (arith, ints, q))

    by_cut : (value : ℕ → ℕ) → AreShared pairs value → (a b : Node) (i j : ℕ) → IsVertexAt (vertices_of 0 wires) a i → IsVertexAt (vertices_of 0 wires) b j → is_through cuts a b ≡ true → value i ≡ value j
    by_cut value shared a b i j at_a at_b through =
        let (cell, any) = and_parts (int_eq a.x b.x && int_eq a.y b.y) (list_any (is_cut_at a b) cuts) through in
        let (same_x, same_y) = one_cell a.x a.y b.x b.y cell in
        let (k, c, lt, is, pass) = Any-from_list_any (is_cut_at a b) cuts any in
        let (listed, has) = and_parts (is_listed c.wires a.wire && is_listed c.wires b.wire) (is_in c.region a.x a.y) pass in
        let (in_a, in_b) = and_parts (is_listed c.wires a.wire) (is_listed c.wires b.wire) listed in
        let at_b' : IsVertexAt (vertices_of 0 wires) (node_at b.wire a.x a.y) j = subst (λ (x : ℤ). IsVertexAt (vertices_of 0 wires) (node_at b.wire x a.y) j) same_x (subst (λ (y : ℤ). IsVertexAt (vertices_of 0 wires) (node_at b.wire b.x y) j) same_y at_b) in
        (h.through value shared k c (omega (arith, le, lt)) (slice_get_read cuts (length cuts) k c refl lt (sym is)) a.wire b.wire in_a in_b).one a.x a.y i j has at_a at_b'
