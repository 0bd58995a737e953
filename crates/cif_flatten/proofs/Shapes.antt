-- What placed shapes keep.
use Rattle.std.proofs.Common.{◌≡◌, ◌⊎◌, inl, inr, ◌^◌, ◌<◌, map, true, ◌||◌, List, [], ◌∷◌, ◌++◌, refl, sym, ap, ◌∙◌, subst, arith}
use Rattle.std.specs.Prelude.{ℤ, pos, neg_ℤ, ◌+ℤ◌, ◌-ℤ◌, ◌≤ℤ◌}
use Rattle.std.specs.List.{All, list_all}
use Rattle.std.specs.Int.{int_min, int_max}
use Rattle.std.specs.Ordering.{int_eq}
use Rattle.std.proofs.lemmas.Int.{ints, clamps}
use Rattle.std.proofs.lemmas.Bool.Decides.{Decides-int_eq}
use Rattle.std.proofs.lemmas.List.{length-map, map-append}
use Rattle.std.proofs.lemmas.List.Elements.{All-weaker, All-head}
use Rattle.std.proofs.lemmas.Bool.{or_right, and_parts, and_from}
use Rattle.plane_geom.specs.declared.shapes.Point.{Point}
use Rattle.plane_geom.specs.declared.shapes.Rect.{Rect}
use Rattle.plane_geom.specs.declared.shapes.Shape.{Shape}
use Rattle.plane_geom.specs.Bounds.{IsWithin, IsPointWithin, IsRectWithin}
use Rattle.plane_geom.specs.Covering.{Figure, block, polygon, wire, figure_of, moved_figure, rect_round, segments, edges_from, outline, is_along, IsWellFormed, IsFigureWithin, IsRectIn, HoldsAround, IsRound, IsReach}
use Rattle.plane_geom.specs.Placement.{Step, shift, negate_x, negate_y, exchange, moved, moved_once}
use Rattle.cif_flatten.specs.Faults.{rect_corners, corners}
use Rattle.cif_flatten.specs.Flat.{IsShapeWithin}
use Rattle.cif_flatten.specs.Unrolling.{IsWideIn, IsDrawable}
use Rattle.cif_flatten.proofs.Cases.{or_case}
use Rattle.cif_flatten.proofs.Ranges.{path_out, second, narrow}

-- ---- edges stay on the axes

Along : Point → Point → Type 0
Along p q = (p.x ≡ q.x) ⊎ (p.y ≡ q.y)

is_on : (p q : Point) → is_along (p, q) ≡ true → Along p q
unfolding Along
is_on p q h = or_case (int_eq p.x q.x) (int_eq p.y q.y) h (λ e. inl ((Decides-int_eq p.x q.x).0 e)) (λ e. inr ((Decides-int_eq p.y q.y).0 e))

on_is : (p q : Point) → Along p q → is_along (p, q) ≡ true
unfolding Along
on_is p q (inl e) = ap (λ b. b || int_eq p.y q.y) ((Decides-int_eq p.x q.x).1 e)
on_is p q (inr e) = or_right (int_eq p.x q.x) (int_eq p.y q.y) ((Decides-int_eq p.y q.y).1 e)

along_once : (s : Step) (p q : Point) → Along p q → Along (moved_once s p) (moved_once s q)
unfolding Along
along_once (shift dx dy) p q (inl e) = inl (ap (λ z. z +ℤ dx) e)
along_once (shift dx dy) p q (inr e) = inr (ap (λ z. z +ℤ dy) e)
along_once negate_x p q (inl e) = inl (ap neg_ℤ e)
along_once negate_x p q (inr e) = inr e
along_once negate_y p q (inl e) = inl e
along_once negate_y p q (inr e) = inr (ap neg_ℤ e)
along_once exchange p q (inl e) = inr e
along_once exchange p q (inr e) = inl e

along_moved : (steps : List Step) (p q : Point) → Along p q → Along (moved steps p) (moved steps q)
along_moved [] p q h = h
along_moved (s ∷ steps) p q h = along_moved steps (moved_once s p) (moved_once s q) (along_once s p q h)

along_edge : (steps : List Step) (e : Point × Point) → is_along e ≡ true → is_along (moved steps e.0, moved steps e.1) ≡ true
along_edge steps e h = on_is (moved steps e.0) (moved steps e.1) (along_moved steps e.0 e.1 (is_on e.0 e.1 h))

abbrev moved_edge : List Step → Point × Point → Point × Point
moved_edge steps e = (moved steps e.0, moved steps e.1)

all_along : (steps : List Step) (edges : List (Point × Point)) → list_all is_along edges ≡ true → list_all is_along (map (moved_edge steps) edges) ≡ true
all_along steps [] h = refl
all_along steps (e ∷ edges) h = and_from (is_along (moved_edge steps e)) (list_all is_along (map (moved_edge steps) edges)) (along_edge steps e (and_parts (is_along e) (list_all is_along edges) h).0) (all_along steps edges (and_parts (is_along e) (list_all is_along edges) h).1)

edges_map : (steps : List Step) (p : Point) (qs : List Point) → edges_from (moved steps p) (map (moved steps) qs) ≡ map (moved_edge steps) (edges_from p qs)
edges_map steps p [] = refl
edges_map steps p (q ∷ qs) = ap (λ r. (moved steps p, moved steps q) ∷ r) (edges_map steps q qs)

outline_map : (steps : List Step) (points : List Point) → outline (map (moved steps) points) ≡ map (moved_edge steps) (outline points)
outline_map steps [] = refl
outline_map steps (p ∷ points) = ap (edges_from (moved steps p)) (sym (map-append (moved steps) points (p ∷ []))) ∙ edges_map steps p (points ++ p ∷ [])

segments_map : (steps : List Step) (path : List Point) → segments (map (moved steps) path) ≡ map (moved_edge steps) (segments path)
segments_map steps [] = refl
segments_map steps (p ∷ []) = refl
segments_map steps (p ∷ q ∷ qs) = edges_map steps p (q ∷ qs)

min_max : (a b : ℤ) → int_min a b ≤ℤ int_max a b
min_max a b = omega (arith, ints, clamps)

pub formed_moved : (steps : List Step) (f : Figure) → IsWellFormed f → IsWellFormed (moved_figure steps f)
formed_moved steps (block r) h =
    let p : Point = moved steps (record { x = r.x0; y = r.y0 }) in
    let q : Point = moved steps (record { x = r.x1; y = r.y1 }) in
    record { across = min_max p.x q.x; up = min_max p.y q.y }
formed_moved steps (polygon points) h = record {
  some = subst (λ n. 0 < n) (sym (length-map points (moved steps))) h.some;
  along = ap (list_all is_along) (outline_map steps points) ∙ all_along steps (outline points) h.along;
}
formed_moved steps (wire half path) h = record {
  some = subst (λ n. 0 < n) (sym (length-map path (moved steps))) h.some;
  along = ap (list_all is_along) (segments_map steps path) ∙ all_along steps (segments path) h.along;
  thick = h.thick;
}

-- ---- the reach is within the range

pub range : Rect
range = record { x0 = neg_ℤ (pos (2 ^ 24)); y0 = neg_ℤ (pos (2 ^ 24)); x1 = pos (2 ^ 24); y1 = pos (2 ^ 24) }

rect_within : (r : Rect) → All (IsPointWithin (2 ^ 24)) (rect_corners r) → IsRectWithin (2 ^ 24) r
rect_within r h =
    let lowest : Point = record { x = r.x0; y = r.y0 } in
    let highest : Point = record { x = r.x1; y = r.y1 } in
    let low : IsPointWithin (2 ^ 24) lowest = All-head (IsPointWithin (2 ^ 24)) lowest (highest ∷ []) h in
    let high : IsPointWithin (2 ^ 24) highest = second (IsPointWithin (2 ^ 24)) lowest highest h in
    record { x0 = low.x; y0 = low.y; x1 = high.x; y1 = high.y }

pub round_range : (f : Figure) → IsWellFormed f → All (IsPointWithin (2 ^ 24)) (corners f) → IsRound f range
unfolding range
round_range (block r) w h = let k : IsRectWithin (2 ^ 24) r = rect_within r h in record { left = k.x0.low; below = k.y0.low; right = k.x1.high; above = k.y1.high }
round_range (polygon points) w h = All-weaker (IsPointWithin (2 ^ 24)) (HoldsAround range (pos 0)) (λ p k. record { left = omega (arith, ints, k.x.low); below = omega (arith, ints, k.y.low); right = omega (arith, ints, k.x.high); above = omega (arith, ints, k.y.high) }) points h
round_range (wire half path) w h = All-weaker (IsWideIn half) (HoldsAround range half) (λ p k. record { left = k.x.low; below = k.y.low; right = k.x.high; above = k.y.high }) path (path_out half path h)

-- a rectangle in the range, and round something in it
inside_range : (r s : Rect) → IsRectIn range r → s.x0 ≤ℤ pos (2 ^ 24) → s.y0 ≤ℤ pos (2 ^ 24) → neg_ℤ (pos (2 ^ 24)) ≤ℤ s.x1 → neg_ℤ (pos (2 ^ 24)) ≤ℤ s.y1 → r.x0 ≤ℤ s.x0 → r.y0 ≤ℤ s.y0 → s.x1 ≤ℤ r.x1 → s.y1 ≤ℤ r.y1 → IsRectWithin (2 ^ 24) r
unfolding range
inside_range r s h a b c d e f g k = record {
  x0 = record { low = h.left; high = omega (arith, ints, a, e) };
  y0 = record { low = h.below; high = omega (arith, ints, b, f) };
  x1 = record { low = omega (arith, ints, c, g); high = h.right };
  y1 = record { low = omega (arith, ints, d, k); high = h.above };
}

point_inside : (r : Rect) (half : ℤ) (p : Point) → IsRectIn range r → IsWideIn half p → pos 0 ≤ℤ half → HoldsAround r half p → IsRectWithin (2 ^ 24) r
point_inside r half p h w t k = inside_range r (record { x0 = p.x -ℤ half; y0 = p.y -ℤ half; x1 = p.x +ℤ half; y1 = p.y +ℤ half }) h
    (omega (arith, ints, w.x.high, t)) (omega (arith, ints, w.y.high, t)) (omega (arith, ints, w.x.low, t)) (omega (arith, ints, w.y.low, t)) k.left k.below k.right k.above

wide_zero : (p : Point) → IsPointWithin (2 ^ 24) p → IsWideIn (pos 0) p
wide_zero p h = record { x = record { low = omega (arith, ints, h.x.low); high = omega (arith, ints, h.x.high) }; y = record { low = omega (arith, ints, h.y.low); high = omega (arith, ints, h.y.high) } }

none_below : {P : Type 0} → 0 < 0 → P
none_below h = absurd (omega (arith, h))

pub reach_within : (f : Figure) (r : Rect) → IsWellFormed f → All (IsPointWithin (2 ^ 24)) (corners f) → IsRound f r → IsRectIn range r → IsRectWithin (2 ^ 24) r
reach_within (block b) r w h k l = let m : IsRectWithin (2 ^ 24) b = rect_within b h in inside_range r b l m.x0.high m.y0.high m.x1.low m.y1.low k.left k.below k.right k.above
reach_within (polygon []) r w h k l = none_below w.some
reach_within (polygon (p ∷ points)) r w h k l = point_inside r (pos 0) p l (wide_zero p (All-head (IsPointWithin (2 ^ 24)) p points h)) (omega (arith, ints)) (All-head (HoldsAround r (pos 0)) p points k)
reach_within (wire half []) r w h k l = none_below w.some
reach_within (wire half (p ∷ path)) r w h k l = point_inside r half p l (All-head (IsWideIn half) p path (path_out half (p ∷ path) h)) w.thick (All-head (HoldsAround r half) p path k)

pub shape_within : (made : Shape) (steps : List Step) (f : Figure) → figure_of made ≡ moved_figure steps f → IsDrawable f → All (IsPointWithin (2 ^ 24)) (corners (moved_figure steps f)) → IsShapeWithin (2 ^ 24) made
shape_within made steps f is d h =
    let formed : IsWellFormed (moved_figure steps f) = formed_moved steps f d.formed in
    record {
      formed = subst IsWellFormed (sym is) formed;
      reach = λ r k. let reach : IsReach (moved_figure steps f) r = subst (λ g. IsReach g r) is k in
          reach_within (moved_figure steps f) r formed h reach.round (reach.least range (round_range (moved_figure steps f) formed h));
    }

-- ---- room

room_within : (z : ℤ) → IsWithin (2 ^ 24) z → IsWithin (2 ^ 60) z
room_within z h = record { low = omega (arith, ints, h.low); high = omega (arith, ints, h.high) }

room_point : (p : Point) → IsPointWithin (2 ^ 24) p → IsPointWithin (2 ^ 60) p
room_point p h = record { x = room_within p.x h.x; y = room_within p.y h.y }

room_moved : (steps : List Step) (f : Figure) → IsDrawable f → All (IsPointWithin (2 ^ 24)) (corners (moved_figure steps f)) → IsFigureWithin (2 ^ 60) (moved_figure steps f)
room_moved steps (block r) d h =
    let k : IsRectWithin (2 ^ 24) (rect_round (moved steps (record { x = r.x0; y = r.y0 })) (moved steps (record { x = r.x1; y = r.y1 }))) = rect_within _ h in
    record { x0 = room_within _ k.x0; y0 = room_within _ k.y0; x1 = room_within _ k.x1; y1 = room_within _ k.y1 }
room_moved steps (polygon points) d h = All-weaker (IsPointWithin (2 ^ 24)) (IsPointWithin (2 ^ 60)) room_point (map (moved steps) points) h
room_moved steps (wire half path) d h = (d.within.0, All-weaker (IsWideIn half) (IsPointWithin (2 ^ 60)) (λ p w. record { x = room_within p.x (narrow half p.x d.formed.thick w.x); y = room_within p.y (narrow half p.y d.formed.thick w.y) }) (map (moved steps) path) (path_out half (map (moved steps) path) h))

pub shape_roomy : (made : Shape) (steps : List Step) (f : Figure) → figure_of made ≡ moved_figure steps f → IsDrawable f → All (IsPointWithin (2 ^ 24)) (corners (moved_figure steps f)) → IsFigureWithin (2 ^ 60) (figure_of made)
shape_roomy made steps f is d h = subst (IsFigureWithin (2 ^ 60)) (sym is) (room_moved steps f d h)
