-- What every file keeps, of commands without fault.
use Rattle.std.proofs.Common.{◌≡◌, ℕ, suc, ◌*◌, ◌/◌, ◌<◌, ◌≤◌, Bool, true, false, ◌||◌, ◌&&◌, List, [], ◌∷◌, ◌++◌, map, length, refl, sym, ap, subst, ◌∙◌, arith}
use Rattle.std.specs.Prelude.{ℤ, pos, negsuc, ◌+ℤ◌, ◌-ℤ◌, ◌*ℤ◌, ◌≤ℤ◌, if◌then◌else◌, flat_map, Some}
use Rattle.std.specs.List.{list_any, list_all, AllByRecursion}
use Rattle.std.specs.Ordering.{int_eq}
use Rattle.std.proofs.lemmas.Int.{ints}
use Rattle.std.proofs.lemmas.List.{map_push}
use Rattle.std.proofs.Math.Nat.{mul-div-le}
use Rattle.std.proofs.lemmas.Nat.{le-div}
use Rattle.std.proofs.lemmas.Bool.{and_parts, or_parts, or_right}
use Rattle.std.proofs.lemmas.Option.{same_Some}
use Rattle.std.proofs.lemmas.Bool.Decides.{Decides-int_eq}
use Rattle.std.proofs.lemmas.List.Elements.{All-from_recursion}
use Rattle.plane_geom.specs.declared.shapes.Point.{Point}
use Rattle.plane_geom.specs.declared.shapes.Shape.{Shape}
use Rattle.plane_geom.specs.Bounds.{IsWithin, IsPointWithin, IsRectWithin}
use Rattle.plane_geom.specs.Covering.{Figure, figure_of, IsWellFormed, IsFigureWithin, IsRect, is_along, edges_from, outline, segments}
use Rattle.cif_grammar.specs.Words.{limit}
use Rattle.cif_grammar.specs.Grammar.{Command, box, polygon, wire, layer, call, user, comment, start, finish}
use Rattle.cif_reader.specs.declared.measure.Scale.{Scale}
use Rattle.cif_reader.specs.declared.measure.Corners.{Corners}
use Rattle.cif_reader.specs.Measure.{is_far, scaled, scaled_point, scaled_rect, doubled, sides, corners, box_corners, is_upright, points_along, point_of}
use Rattle.cif_reader.specs.File.{IsDrawn}
use Rattle.cif_reader.specs.Built.{IsFine, figure_said}
use Rattle.cif_reader.proofs.Measures.{quotient_small}
use Rattle.cif_reader.proofs.Placing.{scaled_pos}

-- ---- scaled numbers

less_turned : (k b n : ℕ) → b * k ≤ n → k * b ≤ n
less_turned k b n h = omega arith

quotients : (m n b : ℕ) → 0 < b → m ≤ n → m / b ≤ n / b
quotients m n b some h = le-div (m / b) n b some (less_turned (m / b) b n (omega (arith, mul-div-le m b)))

product_le : (m n a : ℕ) → m ≤ n → m * a ≤ n * a
product_le m n a h = grind arith

in_order : (s : Scale) (z w : ℤ) → 0 < s.b → z ≤ℤ w → scaled s z ≤ℤ scaled s w
in_order s (pos m) (pos n) some h =
    let q = quotients (m * s.a) (n * s.a) s.b some (product_le m n s.a (omega (arith, ints))) in
    rw (scaled_pos s m, scaled_pos s n) (omega (arith, ints, q))
in_order s (pos m) (negsuc n) some h = absurd (omega (arith, ints))
in_order s (negsuc m) (pos n) some h = rw (scaled_pos s n) (omega (arith, ints))
in_order s (negsuc m) (negsuc n) some h =
    let q = quotients (suc n * s.a) (suc m * s.a) s.b some (product_le (suc n) (suc m) s.a (omega (arith, ints))) in
    omega (arith, ints, q)

scaled_within : (s : Scale) (z : ℤ) → is_far s z ≡ false → IsWithin limit (scaled s z)
scaled_within s (pos n) h =
    let small = quotient_small limit s.b (n * s.a) h in
    rw (scaled_pos s n) (record { low = omega (arith, ints, small); high = omega (arith, ints, small) })
scaled_within s (negsuc n) h =
    let small = quotient_small limit s.b (suc n * s.a) h in
    record { low = omega (arith, ints, small); high = omega (arith, ints, small) }

-- ---- boxes

upright : (across up : ℕ) (c : Point) (s : Scale) → 0 < s.b → IsRect (scaled_rect s (corners across up c))
upright across up c s some = record {
  across = in_order s _ _ some (spread (pos 2 *ℤ c.x) across);
  up = in_order s _ _ some (spread (pos 2 *ℤ c.y) up);
} where
  spread : (z : ℤ) (n : ℕ) → (z -ℤ pos n) ≤ℤ (z +ℤ pos n)
  spread z n = omega (arith, ints)

box_case : (l w : ℕ) (c : Point) (s : Scale) (t : Bool) → 0 < s.b → IsRect (scaled_rect s (if t then corners w l c else corners l w c))
box_case l w c s true some = upright w l c s some
box_case l w c s false some = upright l w c s some

box_within : (s : Scale) (r : Corners) → list_any (is_far s) (sides r) ≡ false → IsRectWithin limit (scaled_rect s r)
box_within s r h =
    let y0 = (or_parts (is_far s r.x0) _ h).1 in
    let x1 = (or_parts (is_far s r.y0) _ y0).1 in
    let y1 = (or_parts (is_far s r.x1) _ x1).1 in
    record {
      x0 = scaled_within s r.x0 (or_parts (is_far s r.x0) _ h).0;
      y0 = scaled_within s r.y0 (or_parts (is_far s r.y0) _ y0).0;
      x1 = scaled_within s r.x1 (or_parts (is_far s r.x1) _ x1).0;
      y1 = scaled_within s r.y1 (or_parts (is_far s r.y1) _ y1).0;
    }

-- ---- points

points_near : (s : Scale) (ps : List Point) → list_any (is_far s) (flat_map doubled ps) ≡ false → AllByRecursion (IsPointWithin limit) (map (scaled_point s) ps)
points_near s [] h = tt
points_near s (p ∷ ps) h =
    let y = (or_parts (is_far s (pos 2 *ℤ p.x)) _ h).1 in (
      record { x = scaled_within s (pos 2 *ℤ p.x) (or_parts (is_far s (pos 2 *ℤ p.x)) _ h).0; y = scaled_within s (pos 2 *ℤ p.y) (or_parts (is_far s (pos 2 *ℤ p.y)) _ y).0 },
      points_near s ps (or_parts (is_far s (pos 2 *ℤ p.y)) _ y).1,
    )

scaled_test : (f : ℤ → ℤ) (z w : ℤ) → int_eq z w ≡ true → int_eq (f z) (f w) ≡ true
scaled_test f z w h = ap (λ v. int_eq (f z) (f v)) (sym ((Decides-int_eq z w).0 h)) ∙ (Decides-int_eq (f z) (f z)).1 refl

either_test : (f : ℤ → ℤ) (a b c d : ℤ) (t : Bool) → int_eq a b ≡ t → (t || int_eq c d) ≡ true → (int_eq (f a) (f b) || int_eq (f c) (f d)) ≡ true
either_test f a b c d true e h = ap (λ u. u || int_eq (f c) (f d)) (scaled_test f a b e)
either_test f a b c d false e h = or_right (int_eq (f a) (f b)) (int_eq (f c) (f d)) (scaled_test f c d h)

along_scaled : (s : Scale) (p q : Point) → is_along (p, q) ≡ true → is_along (scaled_point s p, scaled_point s q) ≡ true
along_scaled s p q h = either_test (λ z. scaled s (pos 2 *ℤ z)) p.x q.x p.y q.y (int_eq p.x q.x) refl h

edges_scaled : (s : Scale) (p : Point) (qs : List Point) → list_all is_along (edges_from p qs) ≡ true → list_all is_along (edges_from (scaled_point s p) (map (scaled_point s) qs)) ≡ true
edges_scaled s p [] h = refl
edges_scaled s p (q ∷ qs) h =
    ap (λ t. t && list_all is_along (edges_from (scaled_point s q) (map (scaled_point s) qs))) (along_scaled s p q (and_parts (is_along (p, q)) _ h).0)
    ∙ edges_scaled s q qs (and_parts (is_along (p, q)) _ h).1

outline_scaled : (s : Scale) (p : Point) (ps : List Point) → list_all is_along (outline (p ∷ ps)) ≡ true → list_all is_along (outline (map (scaled_point s) (p ∷ ps))) ≡ true
outline_scaled s p ps h =
    ap (λ qs. list_all is_along (edges_from (scaled_point s p) qs)) (sym (map_push (scaled_point s) ps p)) ∙ edges_scaled s p (ps ++ p ∷ []) h

segments_scaled : (s : Scale) (p : Point) (ps : List Point) → list_all is_along (segments (p ∷ ps)) ≡ true → list_all is_along (segments (map (scaled_point s) (p ∷ ps))) ≡ true
segments_scaled s p [] h = ap (λ t. t && true) (along_scaled s p p (and_parts (is_along (p, p)) true h).0)
segments_scaled s p (q ∷ qs) h = edges_scaled s p (q ∷ qs) h

-- ---- figures

-- the figure, by its cases
record Kept (figure : Figure) : Type 0 where
  formed : IsWellFormed figure
  within : IsFigureWithin limit figure

path_some : (s : Scale) (p : Point) (ps : List Point) → 0 < length (map (scaled_point s) (p ∷ ps))
path_some s p ps = omega arith

thick_scaled : (s : Scale) (n : ℕ) → pos 0 ≤ℤ scaled s (pos n)
thick_scaled s n = rw (scaled_pos s n) (omega (arith, ints))

by_case : (s : Scale) (c : Command) (figure : Figure) → 0 < s.b → IsFine s c → Some figure ≡ figure_said s c → Kept figure
by_case s (box l w c d) figure some fine e = subst Kept (sym (same_Some _ _ e)) (record { formed = box_case l.value w.value (point_of c) s (is_upright d) some; within = box_within s (box_corners l.value w.value c d) fine.near })
by_case s (polygon p) figure some fine e =
    subst Kept (sym (same_Some _ _ e)) (record {
      formed = record { some = path_some s (point_of p.first) (map point_of p.others); along = outline_scaled s (point_of p.first) (map point_of p.others) fine.straight };
      within = All-from_recursion (IsPointWithin limit) (map (scaled_point s) (points_along p)) (points_near s (points_along p) fine.near);
    })
by_case s (wire w p) figure some fine e =
    subst Kept (sym (same_Some _ _ e)) (record {
      formed = record { some = path_some s (point_of p.first) (map point_of p.others); along = segments_scaled s (point_of p.first) (map point_of p.others) fine.straight; thick = thick_scaled s w.value };
      within = (scaled_within s (pos w.value) (or_parts (is_far s (pos w.value)) _ fine.near).0, All-from_recursion (IsPointWithin limit) (map (scaled_point s) (points_along p)) (points_near s (points_along p) (or_parts (is_far s (pos w.value)) _ fine.near).1));
    })
by_case s (layer name) figure some fine e = cc
by_case s (call n ts) figure some fine e = cc
by_case s (user text) figure some fine e = cc
by_case s comment figure some fine e = cc
by_case s (start n t) figure some fine e = cc
by_case s finish figure some fine e = cc

-- What a drawn command says is well formed and near.
pub figure_kept : (s : Scale) (c : Command) (shape : Shape) → 0 < s.b → IsFine s c → Some (figure_of shape) ≡ figure_said s c → IsDrawn shape
figure_kept s c shape some fine e = let k = by_case s c (figure_of shape) some fine e in record { formed = k.formed; within = k.within }
