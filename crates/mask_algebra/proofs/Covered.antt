-- The cells that a shape covers lie within each rectangle round it.
use Rattle.std.proofs.Common.{◌≡◌, ◌+◌, ◌<◌, Bool, true, false, cond, not, ◌&&◌, List, [], ◌∷◌, ◌++◌, refl, sym, ap, ◌∙◌, inl, inr, arith}
use Rattle.std.specs.Prelude.{ℤ, pos, ◌≤ℤ◌, ◌<ℤ◌, int_lt, count_by}
use Rattle.std.specs.List.{All, AllByRecursion, list_any}
use Rattle.std.proofs.lemmas.Bool.{false≢true}
use Rattle.std.proofs.lemmas.Int.{ints, by_lt_z}
use Rattle.std.proofs.lemmas.List.Elements.{All-head, All-tail}
use Rattle.plane_geom.specs.declared.shapes.Point.{Point}
use Rattle.plane_geom.specs.declared.shapes.Rect.{Rect}
use Rattle.plane_geom.specs.Cells.{is_in_rect}
use Rattle.plane_geom.specs.Ends.{is_odd}
use Rattle.plane_geom.specs.Covering.{Figure, block, polygon, wire, edges_from, segments, is_vertical, spans, is_crossed, polygon_covers, widened, covers, IsOutline, IsWellFormed, IsRectIn, HoldsAround, IsRound}
use Rattle.plane_geom.proofs.Counting.{count_cons}
use Rattle.plane_geom.proofs.Lists.{all_push}
use Rattle.mask_region.proofs.Within.{or_cases}
use Rattle.shape_cut.proofs.Crossings.{is_upright, outline_even, covers_none}
use Rattle.shape_cut.proofs.Segments.{widened_inside}

-- The cell lies within the rectangle.
pub record HasCell (r : Rect) (x y : ℤ) : Type 0 where
  pub left : r.x0 ≤ℤ x
  pub right : x <ℤ r.x1
  pub below : r.y0 ≤ℤ y
  pub above : y <ℤ r.y1

in_inner : (r s : Rect) (x y : ℤ) → IsRectIn r s → is_in_rect s x y ≡ true → HasCell r x y
in_inner r s x y h e = record {
  left = grind (arith, ints, h.left);
  right = grind (arith, ints, h.right);
  below = grind (arith, ints, h.below);
  above = grind (arith, ints, h.above);
}

-- ---- wires

segment_in : (r : Rect) (half x y : ℤ) (p : Point) (qs : List Point) → HoldsAround r half p → All (HoldsAround r half) qs
    → list_any (λ s. is_in_rect (widened half s) x y) (edges_from p qs) ≡ true → HasCell r x y
segment_in r half x y p [] here all e = absurd (false≢true e)
segment_in r half x y p (q ∷ qs) here all e =
    let next = All-head (HoldsAround r half) q qs all in
    elim (or_cases (is_in_rect (widened half (p, q)) x y) (list_any (λ s. is_in_rect (widened half s) x y) (edges_from q qs)) e) [
      | inl one ↦ in_inner r (widened half (p, q)) x y (widened_inside half p q r here next) one
      | inr more ↦ segment_in r half x y q qs next (All-tail (HoldsAround r half) q qs all) more
    ]

wire_in : (r : Rect) (half x y : ℤ) (path : List Point) → All (HoldsAround r half) path
    → list_any (λ s. is_in_rect (widened half s) x y) (segments path) ≡ true → HasCell r x y
wire_in r half x y [] all e = absurd (false≢true e)
wire_in r half x y (p ∷ []) all e =
    let here = All-head (HoldsAround r half) p [] all in
    elim (or_cases (is_in_rect (widened half (p, p)) x y) false e) [
      | inl one ↦ in_inner r (widened half (p, p)) x y (widened_inside half p p r here here) one
      | inr none ↦ absurd (false≢true none)
    ]
wire_in r half x y (p ∷ q ∷ qs) all e = segment_in r half x y p (q ∷ qs) (All-head (HoldsAround r half) p (q ∷ qs) all)
    (All-tail (HoldsAround r half) p (q ∷ qs) all) e

-- ---- polygons

all_points : (r : Rect) (P : Point → Type 0) (points : List Point) → ((p : Point) → HoldsAround r (pos 0) p → P p)
    → All (HoldsAround r (pos 0)) points → AllByRecursion P points
all_points r P [] each all = tt
all_points r P (p ∷ points) each all =
    (each p (All-head (HoldsAround r (pos 0)) p points all), all_points r P points each (All-tail (HoldsAround r (pos 0)) p points all))

none_of : (v s : Bool) → (v && s && not true) ≡ false
none_of true true = refl
none_of true false = refl
none_of false true = refl
none_of false false = refl

both_of : (v s : Bool) → (v && s && not false) ≡ (v && s)
both_of true true = refl
both_of true false = refl
both_of false true = refl
both_of false false = refl

-- Left of all corners no edge is crossed.
none_crossed : (x y : ℤ) (p : Point) (ps : List Point) → int_lt x p.x ≡ true → AllByRecursion (λ q. int_lt x q.x ≡ true) ps
    → count_by (is_crossed x y) (edges_from p ps) ≡ 0
none_crossed x y p [] here rest = refl
none_crossed x y p (q ∷ qs) here rest =
    let one : is_crossed x y (p, q) ≡ false = ap (λ b. is_vertical (p, q) && spans y (p, q) && not b) here
    ∙ none_of (is_vertical (p, q)) (spans y (p, q)) in
    count_cons (is_crossed x y) (p, q) (edges_from q qs) ∙ (λ i. cond (one i) 1 0 + none_crossed x y q qs rest.0 rest.1 i)

-- Right of all corners each upright edge is crossed.
all_crossed : (x y : ℤ) (p : Point) (ps : List Point) → int_lt x p.x ≡ false → AllByRecursion (λ q. int_lt x q.x ≡ false) ps
    → count_by (is_crossed x y) (edges_from p ps) ≡ count_by (is_upright y) (edges_from p ps)
all_crossed x y p [] here rest = refl
all_crossed x y p (q ∷ qs) here rest =
    let one : is_crossed x y (p, q) ≡ is_upright y (p, q) = ap (λ b. is_vertical (p, q) && spans y (p, q) && not b) here
    ∙ both_of (is_vertical (p, q)) (spans y (p, q)) in
    count_cons (is_crossed x y) (p, q) (edges_from q qs) ∙ (λ i. cond (one i) 1 0 + all_crossed x y q qs rest.0 rest.1 i)
    ∙ sym (count_cons (is_upright y) (p, q) (edges_from q qs))

none_left : (points : List Point) (x y : ℤ) → AllByRecursion (λ q. int_lt x q.x ≡ true) points → polygon_covers points x y ≡ false
none_left [] x y h = refl
none_left (p ∷ ps) x y h = ap is_odd (none_crossed x y p (ps ++ p ∷ []) h.0 (all_push (λ q. int_lt x q.x ≡ true) ps p h.1 h.0))

none_right : (points : List Point) (x y : ℤ) → IsOutline points → AllByRecursion (λ q. int_lt x q.x ≡ false) points
    → polygon_covers points x y ≡ false
none_right [] x y formed h = refl
none_right (p ∷ ps) x y formed h = ap is_odd (all_crossed x y p (ps ++ p ∷ []) h.0 (all_push (λ q. int_lt x q.x ≡ false) ps p h.1 h.0))
    ∙ outline_even (p ∷ ps) y formed

clash : {P : Type 0} (b : Bool) → b ≡ false → b ≡ true → P
clash b f t = absurd (false≢true (sym f ∙ t))

polygon_in : (r : Rect) (points : List Point) (x y : ℤ) → IsOutline points → All (HoldsAround r (pos 0)) points
    → polygon_covers points x y ≡ true → HasCell r x y
polygon_in r points x y formed all e = record {
  left = by_lt_z x r.x0
      (λ less. let out = all_points r (λ q. int_lt x q.x ≡ true) points (λ q h. grind (arith, ints, less, h.left)) all in
      clash (polygon_covers points x y) (none_left points x y out) e) (λ k. k);
  right = by_lt_z x r.x1 (λ k. k)
      (λ more. let out = all_points r (λ q. int_lt x q.x ≡ false) points (λ q h. grind (arith, ints, more, h.right)) all in
      clash (polygon_covers points x y) (none_right points x y formed out) e);
  below = by_lt_z y r.y0
      (λ less. let out = all_points r (λ q. int_lt y q.y ≡ true) points (λ q h. grind (arith, ints, less, h.below)) all in
      clash (polygon_covers points x y) (covers_none points x y true out) e) (λ k. k);
  above = by_lt_z y r.y1 (λ k. k)
      (λ more. let out = all_points r (λ q. int_lt y q.y ≡ false) points (λ q h. grind (arith, ints, more, h.above)) all in
      clash (polygon_covers points x y) (covers_none points x y false out) e);
}

-- A covered cell lies within each rectangle round the shape.
pub covered_in : (figure : Figure) (r : Rect) (x y : ℤ) → IsWellFormed figure → IsRound figure r → covers figure x y ≡ true → HasCell r x y
covered_in (block b) r x y formed round e = in_inner r b x y round e
covered_in (polygon points) r x y formed round e = polygon_in r points x y formed round e
covered_in (wire half path) r x y formed round e = wire_in r half x y path round e
