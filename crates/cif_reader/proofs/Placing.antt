-- The place of a call: its turn, and its shift in a scale.
use Rattle.std.proofs.Common.{◌≡◌, ℕ, suc, zero, ◌*◌, ◌<◌, true, false, ◌&&◌, List, [], ◌∷◌, refl, sym, ap, subst, ◌∙◌, arith}
use Rattle.std.specs.Prelude.{ℤ, pos, negsuc, neg_ℤ, ◌+ℤ◌, ◌*ℤ◌, flat_map, Option, Some, None, ◌%◌, ◌/◌, int_lt, ◌==◌, if◌then◌else◌}
use Rattle.std.specs.List.{list_all}
use Rattle.std.proofs.Math.IntN.{pos-*ℤ-pos, negsuc-*ℤ-pos, *ℤ_comm, zero-*ℤ, suc_ℤ-*ℤ}
use Rattle.std.proofs.Math.Nat.{mul-div_left}
use Rattle.std.proofs.lemmas.Nat.{div-add-mod'}
use Rattle.std.proofs.lemmas.Bool.Decides.{nat_tests}
use Rattle.std.proofs.Common.{eqb-true}
use Rattle.std.proofs.lemmas.Int.{ints}
use Rattle.std.proofs.lemmas.Bool.{and_parts}
use Rattle.std.proofs.lemmas.List.Folds.{list_all-append}
use Rattle.plane_geom.specs.declared.shapes.Point.{Point}
use Rattle.plane_geom.specs.declared.places.Place.{Place}
use Rattle.plane_geom.specs.Placement.{negate_x, negate_y, moved, placed, IsPlaceOf}
use Rattle.plane_geom.proofs.Turning.{moved-append, plus, plus-assoc}
use Rattle.cif_grammar.specs.Grammar.{Transform, translate, mirror_x, mirror_y, rotate}
use Rattle.cif_reader.specs.declared.facing.Facing.{Facing}
use Rattle.cif_reader.specs.declared.facing.Facing.TheVariants.{East, North, West, South}
use Rattle.cif_reader.specs.declared.measure.Scale.{Scale}
use Rattle.cif_reader.specs.Measure.{point_of, facing, turns_to, is_whole, scaled, shifts_once, steps_once, steps_of, shift_of, origin}
use Rattle.cif_reader.specs.Near.{turns_once}

-- ---- a turn, and then a shift

neg_plus : (a b : ℤ) → neg_ℤ (a +ℤ b) ≡ neg_ℤ a +ℤ neg_ℤ b
neg_plus a b = omega (arith, ints)

no_more : (a : ℤ) → a ≡ a +ℤ pos 0
no_more a = omega (arith, ints)

from_none : (a b : ℤ) → a +ℤ b ≡ a +ℤ (pos 0 +ℤ b)
from_none a b = omega (arith, ints)

facing_plus : (f : Option Facing) (p q : Point) → moved (turns_to f) (plus p q) ≡ plus (moved (turns_to f) p) (moved (turns_to f) q)
facing_plus None p q = refl
facing_plus (Some East) p q = refl
facing_plus (Some North) p q = λ i. record { x = neg_plus p.y q.y i; y = p.x +ℤ q.x }
facing_plus (Some West) p q = λ i. record { x = neg_plus p.x q.x i; y = neg_plus p.y q.y i }
facing_plus (Some South) p q = λ i. record { x = p.y +ℤ q.y; y = neg_plus p.x q.x i }

once_plus : (t : Transform) (p q : Point) → moved (turns_once t) (plus p q) ≡ plus (moved (turns_once t) p) (moved (turns_once t) q)
once_plus (translate d) p q = refl
once_plus mirror_x p q = λ i. record { x = neg_plus p.x q.x i; y = p.y +ℤ q.y }
once_plus mirror_y p q = λ i. record { x = p.x +ℤ q.x; y = neg_plus p.y q.y i }
once_plus (rotate d) p q = facing_plus (facing (point_of d)) p q

turns_plus : (ts : List Transform) (p q : Point) → moved (flat_map turns_once ts) (plus p q) ≡ plus (moved (flat_map turns_once ts) p) (moved (flat_map turns_once ts) q)
turns_plus [] p q = refl
turns_plus (t ∷ ts) p q =
    let rest : Point → Point = moved (flat_map turns_once ts) in
    moved-append (turns_once t) (flat_map turns_once ts) (plus p q) ∙ ap rest (once_plus t p q)
    ∙ turns_plus ts (moved (turns_once t) p) (moved (turns_once t) q)
    ∙ λ i. plus (sym (moved-append (turns_once t) (flat_map turns_once ts) p) i) (sym (moved-append (turns_once t) (flat_map turns_once ts) q) i)

still_plus : (p : Point) → p ≡ plus p origin
still_plus p = λ i. record { x = no_more p.x i; y = no_more p.y i }

facing_still : (f : Option Facing) → moved (turns_to f) origin ≡ origin
facing_still None = refl
facing_still (Some East) = refl
facing_still (Some North) = refl
facing_still (Some West) = refl
facing_still (Some South) = refl

once_split : (f : ℤ → ℤ) (t : Transform) (p : Point) → moved (steps_once f t) p ≡ plus (moved (turns_once t) p) (moved (steps_once f t) origin)
once_split f (translate d) p = λ i. record { x = from_none p.x (f (pos 2 *ℤ (point_of d).x)) i; y = from_none p.y (f (pos 2 *ℤ (point_of d).y)) i }
once_split f mirror_x p = still_plus (moved (negate_x ∷ []) p)
once_split f mirror_y p = still_plus (moved (negate_y ∷ []) p)
once_split f (rotate d) p = still_plus (moved (turns_to (facing (point_of d))) p) ∙ ap (plus (moved (turns_to (facing (point_of d))) p)) (sym (facing_still (facing (point_of d))))

-- Steps turn a point, and then add where they take the point (0, 0).
steps_split : (f : ℤ → ℤ) (ts : List Transform) (p : Point) → moved (steps_of f ts) p ≡ plus (moved (flat_map turns_once ts) p) (moved (steps_of f ts) origin)
steps_split f [] p = still_plus p
steps_split f (t ∷ ts) p =
    let after : Point → Point = moved (steps_of f ts) in
    let turn : Point → Point = moved (flat_map turns_once ts) in
    let from : Point = moved (steps_once f t) origin in
    let here : Point = moved (turns_once t) p in
    moved-append (steps_once f t) (steps_of f ts) p ∙ ap after (once_split f t p) ∙ steps_split f ts (plus here from)
    ∙ ap (λ q. plus q (after origin)) (turns_plus ts here from)
    ∙ plus-assoc (turn here) (turn from) (after origin)
    ∙ ap (λ q. plus (turn here) q) (sym (steps_split f ts from))
    ∙ λ i. plus (sym (moved-append (turns_once t) (flat_map turns_once ts) p) i) (sym (moved-append (steps_once f t) (steps_of f ts) origin) i)

-- ---- a shift in a scale

times_plus : (n : ℕ) (a b : ℤ) → pos n *ℤ (a +ℤ b) ≡ pos n *ℤ a +ℤ pos n *ℤ b
times_plus zero a b = zero-*ℤ (a +ℤ b) ∙ λ i. sym (zero-*ℤ a) i +ℤ sym (zero-*ℤ b) i
times_plus (suc n) a b = suc_ℤ-*ℤ (pos n) (a +ℤ b) ∙ ap (λ z. z +ℤ (a +ℤ b)) (times_plus n a b) ∙ paired (pos n *ℤ a) (pos n *ℤ b) a b ∙ λ i. sym (suc_ℤ-*ℤ (pos n) a) i +ℤ sym (suc_ℤ-*ℤ (pos n) b) i where
  paired : (c d e f : ℤ) → (c +ℤ d) +ℤ (e +ℤ f) ≡ (c +ℤ e) +ℤ (d +ℤ f)
  paired c d e f = omega (arith, ints)

plus_times : (a b : ℤ) (n : ℕ) → (a +ℤ b) *ℤ pos n ≡ a *ℤ pos n +ℤ b *ℤ pos n
plus_times a b n = *ℤ_comm (a +ℤ b) (pos n) ∙ times_plus n a b ∙ λ i. *ℤ_comm (pos n) a i +ℤ *ℤ_comm (pos n) b i

neg_times : (a c : ℤ) → neg_ℤ a *ℤ c ≡ neg_ℤ (a *ℤ c)
neg_times a c = grind (arith, ints)

not_less : (n : ℕ) → int_lt (pos n) (pos 0) ≡ false
not_less n = grind (arith, nat_tests, ints)

pub scaled_pos : (s : Scale) (n : ℕ) → scaled s (pos n) ≡ pos (n * s.a / s.b)
scaled_pos s n = ap (λ t. if t then neg_ℤ (pos (n * s.a / s.b)) else pos (n * s.a / s.b)) (not_less n)

whole_parts : (m b : ℕ) → (m % b == 0) ≡ true → m / b * b ≡ m
whole_parts m b h = let none : m % b ≡ 0 = eqb-true (m % b) 0 h in omega (arith, div-add-mod' m b)

scaled_times : (s : Scale) (z : ℤ) → is_whole s z ≡ true → scaled s z *ℤ pos s.b ≡ z *ℤ pos s.a
scaled_times s (pos n) h =
    ap (λ w. w *ℤ pos s.b) (scaled_pos s n) ∙ pos-*ℤ-pos (n * s.a / s.b) s.b ∙ ap pos (whole_parts (n * s.a) s.b h) ∙ sym (pos-*ℤ-pos n s.a)
scaled_times s (negsuc n) h =
    neg_times (pos (suc n * s.a / s.b)) (pos s.b) ∙ ap neg_ℤ (pos-*ℤ-pos (suc n * s.a / s.b) s.b) ∙ ap (λ m. neg_ℤ (pos m)) (whole_parts (suc n * s.a) s.b h) ∙ sym (negsuc-*ℤ-pos n s.a)

pos_same : (m n : ℕ) → pos m ≡ pos n → m ≡ n
pos_same m n h = omega (arith, ints)

neg_same : (m n : ℕ) → neg_ℤ (pos m) ≡ neg_ℤ (pos n) → m ≡ n
neg_same m n h = omega (arith, ints)

both_none : (m n : ℕ) → pos m ≡ neg_ℤ (pos n) → (m ≡ 0) × (n ≡ 0)
both_none m n h = (omega (arith, ints), omega (arith, ints))

positive_product : (m b : ℕ) → 0 < b → m * b ≡ 0 → m ≡ 0
positive_product m b some h = grind arith

none_over : (b : ℕ) → 0 < b → 0 / b ≡ 0
none_over b some = omega arith

pub scaled_back : (s : Scale) (z w : ℤ) → 0 < s.b → w *ℤ pos s.b ≡ z *ℤ pos s.a → w ≡ scaled s z
scaled_back s (pos n) (pos m) some h =
    let same : m * s.b ≡ n * s.a = pos_same _ _ (sym (pos-*ℤ-pos m s.b) ∙ h ∙ pos-*ℤ-pos n s.a) in
    ap pos (sym (mul-div_left m some) ∙ ap (λ k. k / s.b) same) ∙ sym (scaled_pos s n)
scaled_back s (pos n) (negsuc m) some h =
    let none = both_none (n * s.a) (suc m * s.b) (sym (sym (negsuc-*ℤ-pos m s.b) ∙ h ∙ pos-*ℤ-pos n s.a)) in
    let zero_is : suc m ≡ 0 = positive_product (suc m) s.b some none.1 in
    absurd (omega arith)
scaled_back s (negsuc n) (pos m) some h =
    let none = both_none (m * s.b) (suc n * s.a) (sym (pos-*ℤ-pos m s.b) ∙ h ∙ negsuc-*ℤ-pos n s.a) in
    ap pos (positive_product m s.b some none.0) ∙ sym (ap (λ k. neg_ℤ (pos (k / s.b))) none.1 ∙ ap (λ k. neg_ℤ (pos k)) (none_over s.b some))
scaled_back s (negsuc n) (negsuc m) some h =
    let same : suc m * s.b ≡ suc n * s.a = neg_same _ _ (sym (negsuc-*ℤ-pos m s.b) ∙ h ∙ negsuc-*ℤ-pos n s.a) in
    ap (λ k. neg_ℤ (pos k)) (sym (mul-div_left (suc m) some) ∙ ap (λ k. k / s.b) same)

-- The second point is the first one times a/b.
record Scales (s : Scale) (p q : Point) : Type 0 where
  x : q.x *ℤ pos s.b ≡ p.x *ℤ pos s.a
  y : q.y *ℤ pos s.b ≡ p.y *ℤ pos s.a

neg_scales : (s : Scale) (z w : ℤ) → w *ℤ pos s.b ≡ z *ℤ pos s.a → neg_ℤ w *ℤ pos s.b ≡ neg_ℤ z *ℤ pos s.a
neg_scales s z w h = neg_times w (pos s.b) ∙ ap neg_ℤ h ∙ sym (neg_times z (pos s.a))

plus_scales : (s : Scale) (z w d : ℤ) → is_whole s d ≡ true → w *ℤ pos s.b ≡ z *ℤ pos s.a → (w +ℤ scaled s d) *ℤ pos s.b ≡ (z +ℤ d) *ℤ pos s.a
plus_scales s z w d whole h =
    plus_times w (scaled s d) s.b ∙ (λ i. h i +ℤ scaled_times s d whole i) ∙ sym (plus_times z d s.a)

facing_scales : (s : Scale) (f : Option Facing) (p q : Point) → Scales s p q → Scales s (moved (turns_to f) p) (moved (turns_to f) q)
facing_scales s None p q h = h
facing_scales s (Some East) p q h = h
facing_scales s (Some North) p q h = record { x = neg_scales s p.y q.y h.y; y = h.x }
facing_scales s (Some West) p q h = record { x = neg_scales s p.x q.x h.x; y = neg_scales s p.y q.y h.y }
facing_scales s (Some South) p q h = record { x = h.y; y = neg_scales s p.x q.x h.x }

once_scales : (s : Scale) (t : Transform) (p q : Point) → list_all (is_whole s) (shifts_once t) ≡ true → Scales s p q → Scales s (moved (steps_once (λ z. z) t) p) (moved (steps_once (scaled s) t) q)
once_scales s (translate d) p q whole h = record {
  x = plus_scales s p.x q.x (pos 2 *ℤ (point_of d).x) (and_parts _ _ whole).0 h.x;
  y = plus_scales s p.y q.y (pos 2 *ℤ (point_of d).y) (and_parts _ _ (and_parts _ _ whole).1).0 h.y;
}
once_scales s mirror_x p q whole h = record { x = neg_scales s p.x q.x h.x; y = h.y }
once_scales s mirror_y p q whole h = record { x = h.x; y = neg_scales s p.y q.y h.y }
once_scales s (rotate d) p q whole h = facing_scales s (facing (point_of d)) p q h

steps_scale : (s : Scale) (ts : List Transform) (p q : Point) → list_all (is_whole s) (flat_map shifts_once ts) ≡ true → Scales s p q → Scales s (moved (steps_of (λ z. z) ts) p) (moved (steps_of (scaled s) ts) q)
steps_scale s [] p q whole h = h
steps_scale s (t ∷ ts) p q whole h =
    let parts : (list_all (is_whole s) (shifts_once t) && list_all (is_whole s) (flat_map shifts_once ts)) ≡ true = sym (list_all-append (is_whole s) (shifts_once t) (flat_map shifts_once ts)) ∙ whole in
    let next = once_scales s t p q (and_parts _ _ parts).0 h in
    let rest = steps_scale s ts (moved (steps_once (λ z. z) t) p) (moved (steps_once (scaled s) t) q) (and_parts _ _ parts).1 next in
    subst (λ r. Scales s r (moved (steps_of (scaled s) (t ∷ ts)) q)) (sym (moved-append (steps_once (λ z. z) t) (steps_of (λ z. z) ts) p))
    (subst (λ r. Scales s (moved (steps_of (λ z. z) ts) (moved (steps_once (λ z. z) t) p)) r) (sym (moved-append (steps_once (scaled s) t) (steps_of (scaled s) ts) q)) rest)

from_origin : (s : Scale) → Scales s origin origin
from_origin s = record { x = none s.a s.b; y = none s.a s.b } where
  none : (a b : ℕ) → pos 0 *ℤ pos b ≡ pos 0 *ℤ pos a
  none a b = pos-*ℤ-pos 0 b ∙ ap pos (omega arith) ∙ sym (pos-*ℤ-pos 0 a)

-- where a call takes the point (0, 0) in a scale
pub shift_scaled : (s : Scale) (ts : List Transform) → 0 < s.b → list_all (is_whole s) (flat_map shifts_once ts) ≡ true
    → ◌≡◌ {A = Point} (record { x = scaled s (shift_of ts).x; y = scaled s (shift_of ts).y }) (moved (steps_of (scaled s) ts) origin)
shift_scaled s ts some whole =
    let end = steps_scale s ts origin origin whole (from_origin s) in
    λ i. record { x = sym (scaled_back s (shift_of ts).x (moved (steps_of (scaled s) ts) origin).x some end.x) i; y = sym (scaled_back s (shift_of ts).y (moved (steps_of (scaled s) ts) origin).y some end.y) i }

-- A turn, and then the scaled shift, is the place of a call.
pub call_place : (s : Scale) (ts : List Transform) (turn made : Place) (by : Place) → 0 < s.b → list_all (is_whole s) (flat_map shifts_once ts) ≡ true
    → IsPlaceOf (flat_map turns_once ts) turn
    → ((p : Point) → placed by p ≡ plus p (record { x = by.dx; y = by.dy }))
    → by.dx ≡ scaled s (shift_of ts).x → by.dy ≡ scaled s (shift_of ts).y
    → ((p : Point) → placed made p ≡ placed by (placed turn p)) → IsPlaceOf (steps_of (scaled s) ts) made
call_place s ts turn made by some whole turns only dx dy both = record {
  moves = λ p.
      both p ∙ only (placed turn p) ∙ ap (λ q. plus q (record { x = by.dx; y = by.dy })) (turns.moves p)
      ∙ ap (plus (moved (flat_map turns_once ts) p)) ((λ i. record { x = dx i; y = dy i }) ∙ shift_scaled s ts some whole)
      ∙ sym (steps_split (scaled s) ts p);
}
