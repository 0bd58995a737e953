-- A layout has one list of transistors.
use Rattle.std.proofs.Common.{◌≡◌, ℕ, suc, ◌≤◌, ◌⊎◌, Bool, true, false, ◌&&◌, ◌||◌, ◌==◌, List, [], ◌∷◌, length, refl, sym, ap, ◌∙◌, subst, arith, inl, inr, slice_get, Some, None, Option}
use Rattle.std.specs.Prelude.{ℤ}
use Rattle.std.proofs.lemmas.Bool.{and_parts, and_from, eqb-true, eq-eqb, or_left}
use Rattle.std.proofs.lemmas.Option.{slice_get_within}
use Rattle.link_classes.specs.Linked.{Linked}
use Rattle.link_classes.proofs.Chains.{linked_map, linked_kept, linked_touch}
use Rattle.link_classes.proofs.UniqueNumbers.{some_one}
use Rattle.switch_net.specs.declared.Kind.{Kind}
use Rattle.switch_net.specs.declared.fets.Fet.{Fet}
use Rattle.layer_map.specs.Plan.{Plan}
use Rattle.layer_map.specs.Plan as layers
use Rattle.mask_region.specs.declared.strips.Strip.{Strip}
use Rattle.mask_region.specs.Strips.{MaskLists}
use Rattle.mask_region.proofs.Within.{or_cases}
use Rattle.net_trace.specs.declared.node.Node.{Node}
use Rattle.net_trace.specs.Touching.{Nets, is_in_wire, has_node, is_node, is_beside, is_along, is_through, touches}
use Rattle.net_trace.specs.Nets.{node_at, is_joined, is_link, IsNetNumber}
use Rattle.net_trace.proofs.NetNumbers.{net_one, net_links, net_count}
use Rattle.net_trace.proofs.TracedNets.{touch_link}
use Rattle.net_trace.proofs.VertexFacts.{by_wire}
use Rattle.device_extract.specs.Channels.{channel_plane, wire_plane, IsCellOf, AreGated}
use Rattle.device_extract.specs.Transistors.{IsKindOf, IsGateOf, IsTransistor, AreTransistors}
use Rattle.device_extract.proofs.Listing.{element_at}

-- ---- channel cells that touch

-- cells of a plane that are linked touch along its wires
pub plane_step : (masks : MaskLists) (a b : Node) → is_link (channel_plane masks) a b ≡ true
    → ((is_node (channel_plane masks) a ≡ true) × (is_node (channel_plane masks) b ≡ true)) × (is_along a b ≡ true)
plane_step masks a b is = elim (or_cases (touches (channel_plane masks) a b) ((is_node (channel_plane masks) a && is_node (channel_plane masks) b) && is_joined [] a b) is) [
  | inl touch ↦
      let (nodes, near) = and_parts (is_node (channel_plane masks) a && is_node (channel_plane masks) b) (is_along a b || is_through [] a b) touch in (
        and_parts (is_node (channel_plane masks) a) (is_node (channel_plane masks) b) nodes,
        elim (or_cases (is_along a b) (is_through [] a b) near) [
          | inl along ↦ along
          | inr through ↦ let (cell, none) = and_parts _ false through in absurd (let no : ⊥ = cc in no)
        ],
      )
  | inr join ↦ let (nodes, none) = and_parts (is_node (channel_plane masks) a && is_node (channel_plane masks) b) (is_joined [] a b) join in absurd (let no : ⊥ = cc in no)
]

-- cells of one transistor are of one line
pub one_line : (masks : MaskLists) (t k m : ℕ) (x y i j : ℤ) → IsCellOf masks t k x y → IsCellOf masks t m i j → k ≡ m
one_line masks t k m x y i j first second =
    linked_kept (is_link (channel_plane masks)) (λ (a : Node). a.wire) same_wire (node_at k x y) (node_at m i j) (net_links (channel_plane masks) (node_at k x y) (node_at m i j) t first second)
  where
    same_wire : (a b : Node) → is_link (channel_plane masks) a b ≡ true → a.wire ≡ b.wire
    same_wire a b is = let (wire, beside) = and_parts (a.wire == b.wire) (is_beside a.x a.y b.x b.y) (plane_step masks a b is).1 in eqb-true a.wire b.wire wire

abbrev gate_in : Option layers.Fet → ℕ
gate_in None = 0
gate_in (Some fet) = fet.gate

module _ (plan : Plan) (masks : MaskLists) (nets : Nets) (each : length masks.channels ≡ length plan.fets) (same : nets.wires ≡ masks.wires) (gated : AreGated plan masks) where
  -- the node of the gate wire at a channel cell
  under : Node → Node
  under a = node_at (gate_in (slice_get plan.fets a.wire)) a.x a.y

  under_node : (a : Node) → is_node (channel_plane masks) a ≡ true → has_node nets (gate_in (slice_get plan.fets a.wire)) a.x a.y ≡ true
  under_node a node =
      let (channel, at_channel, in_channel) = by_wire (slice_get masks.channels a.wire) a.x a.y node in
      let (fet, at) = element_at plan.fets a.wire (omega (arith, each, slice_get_within masks.channels a.wire channel at_channel)) in
      ap (λ o. has_node nets (gate_in o) a.x a.y) at ∙ ap (λ (ws : List (List Strip)). is_in_wire (slice_get ws fet.gate) a.x a.y) same ∙ by_test fet at (has_node (wire_plane masks) fet.gate a.x a.y) refl
    where
      by_test : (fet : layers.Fet) → slice_get plan.fets a.wire ≡ Some fet → (b : Bool) → has_node (wire_plane masks) fet.gate a.x a.y ≡ b → has_node (wire_plane masks) fet.gate a.x a.y ≡ true
      by_test fet at true is = is
      by_test fet at false is = absurd (gated.each a.wire a.x a.y (record { fet = fet; at = at; channel = node; bare = is }))

  -- Channel cells that touch have gate nodes that touch, so a transistor has one gate.
  under_linked : (a b : Node) → is_link (channel_plane masks) a b ≡ true → Linked (is_link nets) (node_at (gate_in (slice_get plan.fets a.wire)) a.x a.y) (node_at (gate_in (slice_get plan.fets b.wire)) b.x b.y)
  under_linked a b is =
      let (nodes, along) = plane_step masks a b is in
      let (wire, beside) = and_parts (a.wire == b.wire) (is_beside a.x a.y b.x b.y) along in
      let one : gate_in (slice_get plan.fets a.wire) ≡ gate_in (slice_get plan.fets b.wire) = ap (λ w. gate_in (slice_get plan.fets w)) (eqb-true a.wire b.wire wire) in
      let p : Node = node_at (gate_in (slice_get plan.fets a.wire)) a.x a.y in
      let q : Node = node_at (gate_in (slice_get plan.fets b.wire)) b.x b.y in
      linked_touch (is_link nets) p q (touch_link nets p q (and_from (is_node nets p && is_node nets q) (is_along p q || is_through nets.cuts p q)
      (and_from (is_node nets p) (is_node nets q) (under_node a nodes.0) (under_node b nodes.1))
      (or_left (is_along p q) (is_through nets.cuts p q) (and_from (p.wire == q.wire) (is_beside a.x a.y b.x b.y) (eq-eqb p.wire q.wire one) beside))))

  pub one_gate : (t m n : ℕ) → IsGateOf plan masks nets t m → IsGateOf plan masks nets t n → m ≡ n
  one_gate t m n first second =
      let a : Node = node_at first.line first.x first.y in
      let b : Node = node_at second.line second.x second.y in
      let linked = linked_map (is_link (channel_plane masks)) (is_link nets) (λ (c : Node). node_at (gate_in (slice_get plan.fets c.wire)) c.x c.y) under_linked a b (net_links (channel_plane masks) a b t first.cell second.cell) in
      net_one nets (node_at (gate_in (slice_get plan.fets first.line)) first.x first.y) (node_at (gate_in (slice_get plan.fets second.line)) second.x second.y) m n
      (subst (λ w. IsNetNumber nets (node_at w first.x first.y) m) (sym (ap gate_in first.at)) first.number)
      (subst (λ w. IsNetNumber nets (node_at w second.x second.y) n) (sym (ap gate_in second.at)) second.number) linked

  one_kind : (t : ℕ) (p q : Kind) → IsKindOf plan masks t p → IsKindOf plan masks t q → p ≡ q
  one_kind t p q first second =
      let line = one_line masks t first.line second.line first.x first.y second.x second.y first.cell second.cell in
      let fet : first.fet ≡ second.fet = some_one first.fet second.fet (sym first.at ∙ ap (λ k. slice_get plan.fets k) line ∙ second.at) in
      sym first.is ∙ ap (λ (f : layers.Fet). f.kind) fet ∙ second.is

  one_pair : (a b c d : ℕ) → (c ≡ a) ⊎ (c ≡ b) → (d ≡ a) ⊎ (d ≡ b) → (a ≡ c) ⊎ (a ≡ d) → (b ≡ c) ⊎ (b ≡ d) → a ≤ b → c ≤ d → (a ≡ c) × (b ≡ d)
  one_pair a b c d (inl ca) (inl da) ea (inl bc) le el = (sym ca, omega (arith, ca, da, bc))
  one_pair a b c d (inl ca) (inl da) ea (inr bd) le el = (sym ca, bd)
  one_pair a b c d (inl ca) (inr db) ea eb le el = (sym ca, sym db)
  one_pair a b c d (inr cb) ed (inl ac) (inl bc) le el = (ac, elim ed [ inl da ↦ omega (arith, cb, da, ac) | inr db ↦ sym db ])
  one_pair a b c d (inr cb) ed (inl ac) (inr bd) le el = (ac, bd)
  one_pair a b c d (inr cb) ed (inr ad) eb le el = (omega (arith, cb, ad, le, el), omega (arith, cb, ad, le, el))

  one_transistor : (t : ℕ) (f g : Fet) → IsTransistor plan masks nets t f → IsTransistor plan masks nets t g → f ≡ g
  one_transistor t f g p q =
      let kind = one_kind t f.kind g.kind p.kind q.kind in
      let gate = one_gate t f.gate.0 g.gate.0 p.gate q.gate in
      let (a, b) = one_pair f.a.0 f.b.0 g.a.0 g.b.0 (p.only g.a.0 q.a) (p.only g.b.0 q.b) (q.only f.a.0 p.a) (q.only f.b.0 p.b) p.order q.order in
      λ i. record { kind = kind i; gate = record { 0 = gate i }; a = record { 0 = a i }; b = record { 0 = b i } }

  pub one_list : (p q : List Fet) → AreTransistors plan masks nets p → AreTransistors plan masks nets q → p ≡ q
  one_list p q first second =
      lists_same p q (net_count (channel_plane masks) (length p) (length q) first.count second.count) (λ t f g at_f at_g. one_transistor t f g (first.each t f at_f) (second.each t g at_g))
    where
      lists_same : (xs ys : List Fet) → length xs ≡ length ys → ((k : ℕ) (x y : Fet) → slice_get xs k ≡ Some x → slice_get ys k ≡ Some y → x ≡ y) → xs ≡ ys
      lists_same [] [] long h = refl
      lists_same [] (y ∷ ys) long h = absurd (omega (arith, long))
      lists_same (x ∷ xs) [] long h = absurd (omega (arith, long))
      lists_same (x ∷ xs) (y ∷ ys) long h = λ i. h 0 x y refl refl i ∷ lists_same xs ys (omega (arith, long)) (λ k a b at_a at_b. h (suc k) a b at_a at_b) i
