-- The nodes of a rectangle are linked along its wire.
use Rattle.std.proofs.Common.{◌≡◌, ℕ, zero, suc, ◌≤◌, true, ◌&&◌, ◌==◌, refl, sym, subst, arith, List, slice_get}
use Rattle.std.specs.Prelude.{ℤ, pos, ◌+ℤ◌, ◌-ℤ◌, ◌≤ℤ◌, unsigned_abs}
use Rattle.std.proofs.lemmas.Bool.{and_from, eq-eqb}
use Rattle.std.proofs.lemmas.Int.{ints}
use Rattle.link_classes.specs.Linked.{Linked}
use Rattle.link_classes.proofs.Chains.{linked_refl, linked_touch, linked_trans}
use Rattle.mask_region.specs.declared.strips.Strip.{Strip}
use Rattle.mask_region.specs.Strips.{is_in_strip}
use Rattle.net_trace.specs.Touching.{is_in_wire, is_beside}
use Rattle.net_trace.specs.Nets.{node_at}
use Rattle.net_trace.specs.Wirings.{is_along_wire}

zero_more : (x : ℤ) → x ≡ x +ℤ pos 0
zero_more x = omega (arith, ints)

next_step : (x : ℤ) (n : ℕ) → (x +ℤ pos n) +ℤ pos 1 ≡ x +ℤ pos (suc n)
next_step x n = omega (arith, ints)

pub gap : (a z : ℤ) → a ≤ℤ z → (n : ℕ) × (z ≡ a +ℤ pos n)
gap a z le = (unsigned_abs (z -ℤ a), grind (arith, ints))

beside_right : (x y : ℤ) → is_beside x y (x +ℤ pos 1) y ≡ true
beside_right x y = grind (arith, ints)

beside_up : (x y : ℤ) → is_beside x y x (y +ℤ pos 1) ≡ true
beside_up x y = grind (arith, ints)

module _ (wires : List (List Strip)) (w : ℕ) where
  along : (x y i j : ℤ) → is_in_wire (slice_get wires w) x y ≡ true → is_in_wire (slice_get wires w) i j ≡ true → is_beside x y i j ≡ true → is_along_wire wires (node_at w x y) (node_at w i j) ≡ true
  along x y i j first second beside =
      and_from (is_in_wire (slice_get wires w) x y && is_in_wire (slice_get wires w) i j) ((w == w) && is_beside x y i j)
      (and_from (is_in_wire (slice_get wires w) x y) (is_in_wire (slice_get wires w) i j) first second)
      (and_from (w == w) (is_beside x y i j) (eq-eqb w w refl) beside)

  row_linked : (x y : ℤ) (n : ℕ) → ((m : ℕ) → m ≤ n → is_in_wire (slice_get wires w) (x +ℤ pos m) y ≡ true) → Linked (is_along_wire wires) (node_at w x y) (node_at w (x +ℤ pos n) y)
  row_linked x y zero cells = subst (λ (z : ℤ). Linked (is_along_wire wires) (node_at w x y) (node_at w z y)) (zero_more x) (linked_refl (is_along_wire wires) (node_at w x y))
  row_linked x y (suc n) cells =
      let next = next_step x n in
      linked_trans (is_along_wire wires) (node_at w x y) (node_at w (x +ℤ pos n) y) (node_at w (x +ℤ pos (suc n)) y)
      (row_linked x y n (λ m le. cells m (omega (arith, le))))
      (subst (λ (z : ℤ). Linked (is_along_wire wires) (node_at w (x +ℤ pos n) y) (node_at w z y)) next
      (linked_touch (is_along_wire wires) (node_at w (x +ℤ pos n) y) (node_at w ((x +ℤ pos n) +ℤ pos 1) y)
      (along (x +ℤ pos n) y ((x +ℤ pos n) +ℤ pos 1) y (cells n (omega arith)) (subst (λ (z : ℤ). is_in_wire (slice_get wires w) z y ≡ true) (sym next) (cells (suc n) (omega arith))) (beside_right (x +ℤ pos n) y))))

  column_linked : (x y : ℤ) (n : ℕ) → ((m : ℕ) → m ≤ n → is_in_wire (slice_get wires w) x (y +ℤ pos m) ≡ true) → Linked (is_along_wire wires) (node_at w x y) (node_at w x (y +ℤ pos n))
  column_linked x y zero cells = subst (λ (z : ℤ). Linked (is_along_wire wires) (node_at w x y) (node_at w x z)) (zero_more y) (linked_refl (is_along_wire wires) (node_at w x y))
  column_linked x y (suc n) cells =
      let next = next_step y n in
      linked_trans (is_along_wire wires) (node_at w x y) (node_at w x (y +ℤ pos n)) (node_at w x (y +ℤ pos (suc n)))
      (column_linked x y n (λ m le. cells m (omega (arith, le))))
      (subst (λ (z : ℤ). Linked (is_along_wire wires) (node_at w x (y +ℤ pos n)) (node_at w x z)) next
      (linked_touch (is_along_wire wires) (node_at w x (y +ℤ pos n)) (node_at w x ((y +ℤ pos n) +ℤ pos 1))
      (along x (y +ℤ pos n) x ((y +ℤ pos n) +ℤ pos 1) (cells n (omega arith)) (subst (λ (z : ℤ). is_in_wire (slice_get wires w) x z ≡ true) (sym next) (cells (suc n) (omega arith))) (beside_up x (y +ℤ pos n)))))

  -- A strip whose cells are all on the wire is linked.
  pub rectangle_linked : (s : Strip) (x y : ℤ) → ((i j : ℤ) → is_in_strip s i j ≡ true → is_in_wire (slice_get wires w) i j ≡ true) → is_in_strip s x y ≡ true
      → Linked (is_along_wire wires) (node_at w s.x0 s.y0) (node_at w x y)
  rectangle_linked s x y cells here =
      let (n, is_x) = gap s.x0 x (from_left s x y here) in
      let (m, is_y) = gap s.y0 y (from_low s x y here) in
      subst (λ (z : ℤ). Linked (is_along_wire wires) (node_at w s.x0 s.y0) (node_at w z y)) (sym is_x)
      (subst (λ (z : ℤ). Linked (is_along_wire wires) (node_at w s.x0 s.y0) (node_at w (s.x0 +ℤ pos n) z)) (sym is_y)
      (linked_trans (is_along_wire wires) (node_at w s.x0 s.y0) (node_at w (s.x0 +ℤ pos n) s.y0) (node_at w (s.x0 +ℤ pos n) (s.y0 +ℤ pos m))
      (row_linked s.x0 s.y0 n (λ k le. cells (s.x0 +ℤ pos k) s.y0 (in_row s x y n k here is_x le)))
      (column_linked (s.x0 +ℤ pos n) s.y0 m (λ k le. cells (s.x0 +ℤ pos n) (s.y0 +ℤ pos k) (in_column s x y n m k here is_x is_y le)))))
    where
      from_left : (s : Strip) (x y : ℤ) → is_in_strip s x y ≡ true → s.x0 ≤ℤ x
      from_left s x y here = grind (arith, ints, here)

      from_low : (s : Strip) (x y : ℤ) → is_in_strip s x y ≡ true → s.y0 ≤ℤ y
      from_low s x y here = grind (arith, ints, here)

      in_row : (s : Strip) (x y : ℤ) (n k : ℕ) → is_in_strip s x y ≡ true → x ≡ s.x0 +ℤ pos n → k ≤ n → is_in_strip s (s.x0 +ℤ pos k) s.y0 ≡ true
      in_row s x y n k here is le = grind (arith, ints, here, is)

      in_column : (s : Strip) (x y : ℤ) (n m k : ℕ) → is_in_strip s x y ≡ true → x ≡ s.x0 +ℤ pos n → y ≡ s.y0 +ℤ pos m → k ≤ m → is_in_strip s (s.x0 +ℤ pos n) (s.y0 +ℤ pos k) ≡ true
      in_column s x y n m k here is_x is_y le = grind (arith, ints, here, is_x, is_y)
