-- The order of nodes: by wire, then by y, then by x.
use Rattle.std.proofs.Common.{◌≡◌, ℕ, ◌<◌, ◌⊎◌, true, ◌==◌, refl, sym, arith, inl, inr}
use Rattle.std.specs.Prelude.{ℤ, ◌<ℤ◌}
use Rattle.std.specs.Cmp.{IsTotalOrder}
use Rattle.std.specs.Ordering.{nat_cmp, int_cmp, ordering_then}
use Rattle.std.specs.declared.cmp.Ordering.{Ordering}
use Rattle.std.specs.declared.cmp.Ordering.TheVariants.{Less, Equal, Greater}
use Rattle.std.proofs.lemmas.Cmp.{then_total, on_total, nat_cmp_total, int_cmp_total, ranked, int_ranked}
use Rattle.std.proofs.lemmas.Bool.{and_parts, eqb-true}
use Rattle.std.proofs.lemmas.Int.{ints, by_lt_z}
use Rattle.mask_region.specs.declared.strips.Strip.{Strip}
use Rattle.mask_region.specs.Strips.{is_in_strip, IsStrip}
use Rattle.net_trace.specs.declared.node.Node.{Node}
use Rattle.net_trace.specs.declared.wiring.Vertex.{Vertex}
use Rattle.net_trace.specs.Nets.{node_cmp}
use Rattle.net_trace.specs.Wirings.{is_at, corner, IsBehind}
use Rattle.link_classes.proofs.TableNumbers.{nat_less}

pub node_total : IsTotalOrder node_cmp
node_total = then_total (on_total (λ (a : Node). a.wire) nat_cmp_total) (then_total (on_total (λ (a : Node). a.y) int_cmp_total) (on_total (λ (a : Node). a.x) int_cmp_total))

then_equal : (p q : Ordering) → ordering_then p q ≡ Equal → (p ≡ Equal) × (q ≡ Equal)
then_equal Less q h = let none : ⊥ = cc in absurd none
then_equal Equal q h = (refl, h)
then_equal Greater q h = let none : ⊥ = cc in absurd none

then_less : (p q : Ordering) → (p ≡ Less) ⊎ ((p ≡ Equal) × (q ≡ Less)) → ordering_then p q ≡ Less
then_less Less q h = refl
then_less Equal q (inl h) = let none : ⊥ = cc in absurd none
then_less Equal q (inr h) = h.1
then_less Greater q (inl h) = let none : ⊥ = cc in absurd none
then_less Greater q (inr h) = let e : Greater ≡ Equal = h.0 in let none : ⊥ = cc in absurd none

pub node_equal : (a b : Node) → node_cmp a b ≡ Equal → a ≡ b
node_equal a b is =
    let (wire, rest) = then_equal (nat_cmp a.wire b.wire) (ordering_then (int_cmp a.y b.y) (int_cmp a.x b.x)) is in
    let (row, column) = then_equal (int_cmp a.y b.y) (int_cmp a.x b.x) rest in
    let same_wire : a.wire ≡ b.wire = ranked a.wire b.wire Equal (sym wire) in
    let same_y : a.y ≡ b.y = int_ranked a.y b.y Equal (sym row) in
    let same_x : a.x ≡ b.x = int_ranked a.x b.x Equal (sym column) in
    λ i. record { wire = same_wire i; x = same_x i; y = same_y i }

nat_same : (m n : ℕ) → m ≡ n → nat_cmp m n ≡ Equal
nat_same m n same = by_nat (nat_cmp m n) refl
  where
    by_nat : (o : Ordering) → nat_cmp m n ≡ o → nat_cmp m n ≡ Equal
    by_nat Less is = let e : m < n = ranked m n Less (sym is) in absurd (omega (arith, same, e))
    by_nat Equal is = is
    by_nat Greater is = let e : n < m = ranked m n Greater (sym is) in absurd (omega (arith, same, e))

int_less : (m n : ℤ) → m <ℤ n → int_cmp m n ≡ Less
int_less m n lt = by_int (int_cmp m n) refl
  where
    by_int : (o : Ordering) → int_cmp m n ≡ o → int_cmp m n ≡ Less
    by_int Less is = is
    by_int Equal is = let e : m ≡ n = int_ranked m n Equal (sym is) in absurd (omega (arith, ints, e))
    by_int Greater is = let e : n <ℤ m = int_ranked m n Greater (sym is) in absurd (omega (arith, ints, e))

int_same : (m n : ℤ) → m ≡ n → int_cmp m n ≡ Equal
int_same m n same = by_int (int_cmp m n) refl
  where
    by_int : (o : Ordering) → int_cmp m n ≡ o → int_cmp m n ≡ Equal
    by_int Less is = let e : m <ℤ n = int_ranked m n Less (sym is) in absurd (omega (arith, ints, e))
    by_int Equal is = is
    by_int Greater is = let e : n <ℤ m = int_ranked m n Greater (sym is) in absurd (omega (arith, ints, e))

-- the least node of a strip comes before that of each strip behind it
pub corner_before : (u v : Vertex) → IsStrip u.strip → IsBehind u v → node_cmp (corner u) (corner v) ≡ Less
corner_before u v strip (inl later) = then_less (nat_cmp u.wire v.wire) (ordering_then (int_cmp u.strip.y0 v.strip.y0) (int_cmp u.strip.x0 v.strip.x0)) (inl (nat_less u.wire v.wire later))
corner_before u v strip (inr (same, f)) =
    then_less (nat_cmp u.wire v.wire) (ordering_then (int_cmp u.strip.y0 v.strip.y0) (int_cmp u.strip.x0 v.strip.x0)) (inr (
      nat_same u.wire v.wire same,
      then_less (int_cmp u.strip.y0 v.strip.y0) (int_cmp u.strip.x0 v.strip.x0) (by_lt_z u.strip.y0 v.strip.y0
          (λ up. inl (int_less u.strip.y0 v.strip.y0 up))
          (λ level. let equal : u.strip.y0 ≡ v.strip.y0 = omega (arith, ints, f.later) in let right = f.right equal in let wide = strip.wide in
          inr (int_same u.strip.y0 v.strip.y0 equal, int_less u.strip.x0 v.strip.x0 (omega (arith, ints, right, wide))))),
    ))

less_cases : (p q : Ordering) → ordering_then p q ≡ Less → (p ≡ Less) ⊎ ((p ≡ Equal) × (q ≡ Less))
less_cases Less q h = inl refl
less_cases Equal q h = inr (refl, h)
less_cases Greater q h = let none : ⊥ = cc in absurd none

-- no node of a strip comes before the least one
pub corner_least : (v : Vertex) (a : Node) → is_at v a ≡ true → node_cmp a (corner v) ≡ Less → ⊥
corner_least v a at less =
    let (wire, cell) = and_parts (v.wire == a.wire) (is_in_strip v.strip a.x a.y) at in
    elim (less_cases (nat_cmp a.wire v.wire) (ordering_then (int_cmp a.y v.strip.y0) (int_cmp a.x v.strip.x0)) less) [
      | inl h ↦ let lt : a.wire < v.wire = ranked a.wire v.wire Less (sym h) in omega (arith, lt, eqb-true v.wire a.wire wire)
      | inr h ↦ elim (less_cases (int_cmp a.y v.strip.y0) (int_cmp a.x v.strip.x0) h.1) [
        | inl row ↦ low_row v.strip a.x a.y cell (int_ranked a.y v.strip.y0 Less (sym row))
        | inr row ↦ low_column v.strip a.x a.y cell (int_ranked a.x v.strip.x0 Less (sym row.1))
      ]
    ]
  where
    low_row : (s : Strip) (x y : ℤ) → is_in_strip s x y ≡ true → y <ℤ s.y0 → ⊥
    low_row s x y cell lt = grind (arith, ints, cell)

    low_column : (s : Strip) (x y : ℤ) → is_in_strip s x y ≡ true → x <ℤ s.x0 → ⊥
    low_column s x y cell lt = grind (arith, ints, cell)
