-- Worked instances of the definitions: values that are computed, relations that hold, and relations that are refused.
use Rattle.std.proofs.Common.{◌≡◌, ℕ, zero, suc, ◌<◌, ◌⊎◌, ◌==◌, ◌&&◌, ◌||◌, true, false, List, [], ◌∷◌, slice_get, Some, refl, sym, ap, ◌∙◌, subst, arith, inl, inr}
use Rattle.std.specs.Prelude.{ℤ, pos, negsuc}
use Rattle.std.specs.Ordering.{int_eq}
use Rattle.std.specs.declared.cmp.Ordering.TheVariants.{Less, Equal, Greater}
use Rattle.std.specs.List.{AllZip}
use Rattle.std.proofs.lemmas.Bool.{and_parts, eqb-true}
use Rattle.std.proofs.lemmas.Int.{ints}
use Rattle.link_classes.specs.Linked.{Linked}
use Rattle.link_classes.specs.Numbering.{IsLeast}
use Rattle.link_classes.proofs.Chains.{linked_kept}
use Rattle.link_classes.proofs.UniqueNumbers.{some_one, no_some}
use Rattle.mask_region.specs.declared.strips.Strip.{Strip}
use Rattle.mask_region.specs.Strips.{is_in}
use Rattle.net_trace.specs.declared.node.Node.{Node}
use Rattle.net_trace.specs.Touching.{Cut, Nets, has_node, is_beside, is_along, is_through, is_node, touches}
use Rattle.net_trace.specs.Nets.{node_cmp, node_at, is_joined, is_link, AreNetRoots, IsNetNumber, IsNetCount, IsRegionOf, IsJoinedBy}
use Rattle.net_trace.proofs.NetNumbers.{net_count}
use Rattle.net_trace.proofs.TracedNets.{linked_node}
use Rattle.mask_region.proofs.Within.{or_cases}

strip : ℤ → ℤ → ℤ → ℤ → Strip
strip x0 y0 x1 y1 = record { y0 = y0; y1 = y1; x0 = x0; x1 = x1 }

node : ℕ → ℕ → ℕ → Node
node wire x y = node_at wire (pos x) (pos y)

-- the wires and cuts, where nothing is joined
drawn : List (List Strip) → List Cut → Nets
drawn wires cuts = record { wires = wires; cuts = cuts; joins = [] }

impossible : {P : Type 0} → true ≡ false → P
impossible e = let none : ⊥ = cc in absurd none

-- ---- nodes and touching

-- cells that share an edge, that meet at a corner, and that are one
beside : is_beside (pos 0) (pos 0) (pos 0) (negsuc 0) ≡ true
beside = refl

at_a_corner : is_beside (pos 0) (pos 0) (pos 1) (pos 1) ≡ false
at_a_corner = refl

beside_itself : is_beside (pos 3) (pos 4) (pos 3) (pos 4) ≡ false
beside_itself = refl

square : List Strip
square = strip (pos 0) (pos 0) (pos 10) (pos 10) ∷ []

-- two wires with one square each, and a cut in their middle that also lies over the empty cells behind them
crossing : Nets
crossing = drawn (square ∷ square ∷ []) (record { region = strip (pos 4) (pos 4) (pos 12) (pos 6) ∷ []; wires = 0 ∷ 1 ∷ [] } ∷ [])

last_cell : is_node crossing (node 1 9 9) ≡ true
unfolding crossing drawn square strip node
last_cell = refl

behind_the_last : is_node crossing (node 1 10 9) ≡ false
unfolding crossing drawn square strip node
behind_the_last = refl

no_such_wire : is_node crossing (node 2 0 0) ≡ false
unfolding crossing drawn square strip node
no_such_wire = refl

along : touches crossing (node 0 3 3) (node 0 3 2) ≡ true
unfolding crossing drawn square strip node
along = refl

corner_to_corner : touches crossing (node 0 3 3) (node 0 4 4) ≡ false
unfolding crossing drawn square strip node
corner_to_corner = refl

through_the_cut : touches crossing (node 0 4 4) (node 1 4 4) ≡ true
unfolding crossing drawn square strip node
through_the_cut = refl

beside_the_cut : touches crossing (node 0 3 4) (node 1 3 4) ≡ false
unfolding crossing drawn square strip node
beside_the_cut = refl

through_and_along : touches crossing (node 0 4 4) (node 1 5 4) ≡ false
unfolding crossing drawn square strip node
through_and_along = refl

-- a cut joins nothing where a wire is missing
cut_over_no_wire : touches crossing (node 0 11 5) (node 1 11 5) ≡ false
unfolding crossing drawn square strip node
cut_over_no_wire = refl

-- a cut that lists one wire alone joins no other
cut_of_one_wire : touches (drawn (square ∷ square ∷ []) (record { region = square; wires = 0 ∷ [] } ∷ [])) (node 0 4 4) (node 1 4 4) ≡ false
unfolding drawn square strip node
cut_of_one_wire = refl

-- ---- the order of nodes

wire_first : node_cmp (node 1 0 0) (node 0 9 9) ≡ Greater
unfolding node
wire_first = refl

row_before_column : node_cmp (node 0 9 0) (node 0 0 1) ≡ Less
unfolding node
row_before_column = refl

below_zero : node_cmp (node_at 0 (pos 0) (negsuc 0)) (node 0 0 0) ≡ Less
unfolding node
below_zero = refl

one_node : node_cmp (node 0 5 7) (node 0 5 7) ≡ Equal
unfolding node
one_node = refl

-- ---- nets

cell : List Strip
cell = strip (pos 0) (pos 0) (pos 1) (pos 1) ∷ []

only_cell : (x y : ℤ) → is_in cell x y ≡ true → (x ≡ pos 0) × (y ≡ pos 0)
unfolding cell strip
only_cell x y has = (grind (arith, ints, has), grind (arith, ints, has))

-- two wires with one cell each: without a cut, and with one
apart : Nets
apart = drawn (cell ∷ cell ∷ []) []

with_via : Nets
with_via = drawn (cell ∷ cell ∷ []) (record { region = cell; wires = 0 ∷ 1 ∷ [] } ∷ [])

-- each node is one of the two
which : (wire : ℕ) (x y : ℤ) → has_node apart wire x y ≡ true → (node_at wire x y ≡ node 0 0 0) ⊎ (node_at wire x y ≡ node 1 0 0)
unfolding apart drawn node
which zero x y has = let (ex, ey) = only_cell x y has in inl (λ i. record { wire = 0; x = ex i; y = ey i })
which (suc zero) x y has = let (ex, ey) = only_cell x y has in inr (λ i. record { wire = 1; x = ex i; y = ey i })
which (suc (suc wire)) x y has = impossible (sym has)

-- the first node is the least
none_before : (b : Node) → is_node apart b ≡ true → node_cmp b (node 0 0 0) ≡ Less → ⊥
unfolding node
none_before b is less = elim (which b.wire b.x b.y is) [
  | inl first ↦ let same : Equal ≡ Less = sym (one_node_is first) ∙ less in let none : ⊥ = cc in none
  | inr second ↦ let same : Greater ≡ Less = sym (second_node_is second) ∙ less in let none : ⊥ = cc in none
] where
  one_node_is : b ≡ node 0 0 0 → node_cmp b (node 0 0 0) ≡ Equal
  one_node_is e = ap (λ (n : Node). node_cmp n (node 0 0 0)) e

  second_node_is : b ≡ node 1 0 0 → node_cmp b (node 0 0 0) ≡ Greater
  second_node_is e = ap (λ (n : Node). node_cmp n (node 0 0 0)) e

itself : (nets : Nets) (a b : Node) → a ≡ b → Linked (is_link nets) a b
itself nets a b same = record { chain = []; leads = same }

-- through the cut the two are one net
joined_by_the_cut : AreNetRoots with_via (node 0 0 0 ∷ [])
unfolding with_via apart drawn node cell strip
joined_by_the_cut = record { least = least; every = every; rising = rising } where
  least : (k : ℕ) (r : Node) → slice_get (node 0 0 0 ∷ []) k ≡ Some r → IsLeast node_cmp (is_node with_via) (is_link with_via) r
  least zero r at = subst (λ (x : Node). IsLeast node_cmp (is_node with_via) (is_link with_via) x) (some_one (node 0 0 0) r at) first
    where
      first : IsLeast node_cmp (is_node with_via) (is_link with_via) (node 0 0 0)
      first = record { thing = refl; least = λ b linked less. none_before b (linked_node with_via (node 0 0 0) b refl linked) less }
  least (suc k) r at = no_some r at

  every : (a : Node) → is_node with_via a ≡ true → (k : ℕ) × (r : Node) × (slice_get (node 0 0 0 ∷ []) k ≡ Some r) × Linked (is_link with_via) a r
  every a is = elim (which a.wire a.x a.y is) [
    | inl first ↦ (0, node 0 0 0, refl, itself with_via a (node 0 0 0) first)
    | inr second ↦ (0, node 0 0 0, refl, subst (λ (x : Node). Linked (is_link with_via) x (node 0 0 0)) (sym second) through)
  ] where
    through : Linked (is_link with_via) (node 1 0 0) (node 0 0 0)
    through = record { chain = node 0 0 0 ∷ []; leads = (inl refl, refl) }

  rising : (j k : ℕ) (q r : Node) → j < k → slice_get (node 0 0 0 ∷ []) j ≡ Some q → slice_get (node 0 0 0 ∷ []) k ≡ Some r → node_cmp q r ≡ Less
  rising j zero q r less at_j at_k = absurd (omega (arith, less))
  rising j (suc k) q r less at_j at_k = no_some r at_k

one_net : IsNetCount with_via 1
one_net = record { roots = node 0 0 0 ∷ []; are = joined_by_the_cut; is = refl }

not_two_nets : IsNetCount with_via 2 → ⊥
not_two_nets two = omega (arith, net_count with_via 1 2 one_net two)

upper_in_net_0 : IsNetNumber with_via (node 1 0 0) 0
unfolding with_via drawn node cell strip
upper_in_net_0 = record { roots = node 0 0 0 ∷ []; are = joined_by_the_cut; root = node 0 0 0; at = refl; thing = is; linked = through } where
  is : is_node with_via (node 1 0 0) ≡ true
  is = refl

  through : Linked (is_link with_via) (node 1 0 0) (node 0 0 0)
  through = record { chain = node 0 0 0 ∷ []; leads = (inl refl, refl) }

no_node_no_net : (n : ℕ) → IsNetNumber with_via (node 0 1 0) n → ⊥
unfolding with_via drawn node cell strip
no_node_no_net n number = impossible (sym number.thing)

-- without the cut they are two
wire_kept : (a b : Node) → is_link apart a b ≡ true → a.wire ≡ b.wire
unfolding apart drawn
wire_kept a b link = elim (or_cases (touches apart a b) ((is_node apart a && is_node apart b) && is_joined [] a b) link) [
  | inl touch ↦ elim (or_cases (is_along a b) (is_through [] a b) (and_parts (is_node apart a && is_node apart b) (is_along a b || is_through [] a b) touch).1) [
    | inl along ↦ eqb-true a.wire b.wire (and_parts (a.wire == b.wire) (is_beside a.x a.y b.x b.y) along).0
    | inr through ↦ impossible (sym (and_parts (int_eq a.x b.x && int_eq a.y b.y) false through).1)
  ]
  | inr joined ↦ impossible (sym (and_parts (is_node apart a && is_node apart b) false joined).1)
]

not_linked : (r : Node) → r ≡ node 0 0 0 → Linked (is_link apart) (node 1 0 0) r → ⊥
unfolding node
not_linked r first linked = omega (arith, linked_kept (is_link apart) (λ (n : Node). n.wire) wire_kept (node 1 0 0) r linked ∙ ap (λ (n : Node). n.wire) first)

only_root : (k : ℕ) (r : Node) → slice_get (node 0 0 0 ∷ []) k ≡ Some r → r ≡ node 0 0 0
only_root zero r at = sym (some_one (node 0 0 0) r at)
only_root (suc k) r at = no_some r at

one_root_of_two : AreNetRoots apart (node 0 0 0 ∷ []) → ⊥
unfolding apart drawn node cell strip
one_root_of_two h = let (k, r, at, linked) = h.every (node 1 0 0) is in not_linked r (only_root k r at) linked
  where
    is : is_node apart (node 1 0 0) ≡ true
    is = refl

-- ---- the cells of a net

upper_cells : IsRegionOf with_via 0 1 cell
unfolding with_via drawn cell node
upper_cells = record { inside = inside; whole = λ x y number. number.thing } where
  inside : (x y : ℤ) → is_in cell x y ≡ true → IsNetNumber with_via (node_at 1 x y) 0
  inside x y has = let (ex, ey) = only_cell x y has in subst (λ (n : Node). IsNetNumber with_via n 0) (λ i. record { wire = 1; x = sym ex i; y = sym ey i }) upper_in_net_0

no_cells : IsRegionOf with_via 0 1 [] → ⊥
unfolding node
no_cells h = impossible (sym (h.whole (pos 0) (pos 0) upper_in_net_0))

-- ---- joining

nothing_joined : IsJoinedBy with_via [] with_via
unfolding with_via drawn
nothing_joined = record { roots = node 0 0 0 ∷ []; are = joined_by_the_cut; ends = []; at = tt; wires = refl; cuts = refl; joins = refl }

-- each pair adds one of least nodes
pair_forgotten : IsJoinedBy with_via ((0, 0) ∷ []) with_via → ⊥
unfolding with_via drawn
pair_forgotten h = none h.ends h.at h.joins
  where
    none : (ends : List (Node × Node)) → AllZip (λ (p : ℕ × ℕ) (e : Node × Node). (slice_get h.roots p.0 ≡ Some e.0) × (slice_get h.roots p.1 ≡ Some e.1)) ((0, 0) ∷ []) ends → [] ≡ ends → ⊥
    none [] at is = at
    none (e ∷ ends) at is = cc

cut_forgotten : IsJoinedBy with_via [] apart → ⊥
unfolding with_via apart drawn
cut_forgotten h = let is : ◌≡◌ {A = List Cut} (record { region = cell; wires = 0 ∷ 1 ∷ [] } ∷ []) [] = sym h.cuts in cc
