-- The widened rectangles of a wire's segments, one by one.
use Rattle.std.proofs.Common.{◌≡◌, ℕ, ◌+◌, ◌<◌, ◌≤◌, ◌^◌, Bool, true, false, ◌||◌, List, [], ◌∷◌, ◌++◌, length, drop, refl, sym, ap, ◌∙◌, arith}
use Rattle.std.specs.Prelude.{ℤ, pos, ◌≤ℤ◌, slice_index_or}
use Rattle.std.specs.List.{All, list_any}
use Rattle.std.proofs.Math.Bool.{or-false}
use Rattle.std.proofs.lemmas.Int.{ints, clamps}
use Rattle.std.proofs.lemmas.List.{drop_more, drop_all}
use Rattle.std.proofs.lemmas.List.Elements.{All-nil, All-push, All-get_or}
use Rattle.std.proofs.lemmas.List.Folds.{list_any-append}
use Rattle.plane_geom.specs.declared.shapes.Point.{Point}
use Rattle.plane_geom.specs.declared.shapes.Rect.{Rect}
use Rattle.plane_geom.specs.Bounds.{IsPointWithin}
use Rattle.plane_geom.specs.Cells.{is_in_rect, is_in_rects}
use Rattle.plane_geom.specs.Covering.{edges_from, widened, wire_covers, IsRect, IsRectIn, HoldsAround}

abbrev pub no_point : Point
no_point = record { x = pos 0; y = pos 0 }

-- the point with this index
abbrev pub point_at : List Point → ℕ → Point
point_at points k = slice_index_or points k no_point

-- the cells of the segments from a point on
abbrev pub covered_from : ℤ → Point → List Point → ℤ → ℤ → Bool
covered_from half p points x y = list_any (λ s. is_in_rect (widened half s) x y) (edges_from p points)

-- The rectangles are those of the segments before index k; `from` is the point before it.
pub record AreWidened (half : ℤ) (path : List Point) (k : ℕ) (from : Point) (rects : List Rect) : Type 0 where
  pub near : IsPointWithin (2 ^ 24) from
  pub cells : (x y : ℤ) → (is_in_rects rects x y || covered_from half from (drop k path) x y) ≡ wire_covers half path x y
  pub formed : All IsRect rects
  pub held : (r : Rect) → All (HoldsAround r half) path → HoldsAround r half from
  pub inside : (r : Rect) → All (HoldsAround r half) path → All (IsRectIn r) rects

pub widened_formed : (half : ℤ) (p q : Point) → pos 0 ≤ℤ half → IsRect (widened half (p, q))
widened_formed half p q thick = record { across = omega (arith, ints, clamps); up = omega (arith, ints, clamps) }

pub widened_inside : (half : ℤ) (p q : Point) (r : Rect) → HoldsAround r half p → HoldsAround r half q → IsRectIn r (widened half (p, q))
widened_inside half p q r a b =
    record {
      left = omega (arith, ints, clamps, a.left, b.left);
      below = omega (arith, ints, clamps, a.below, b.below);
      right = omega (arith, ints, clamps, a.right, b.right);
      above = omega (arith, ints, clamps, a.above, b.above);
    }

segments_more : (half : ℤ) (path : List Point) (x y : ℤ) → 1 < length path → covered_from half (point_at path 0) (drop 1 path) x y ≡ wire_covers half path x y
segments_more half [] x y h = absurd (omega arith)
segments_more half (p ∷ []) x y h = absurd (omega arith)
segments_more half (p ∷ q ∷ qs) x y h = refl

pub widened_start : (half : ℤ) (path : List Point) (from : Point) (rects : List Rect) → 1 < length path → All (IsPointWithin (2 ^ 24)) path → from ≡ point_at path 0 → rects ≡ []
    → AreWidened half path 1 from rects
widened_start half path from rects more near here none =
    rw (here, none)
    (record {
      near = All-get_or (IsPointWithin (2 ^ 24)) path 0 no_point (omega arith) near;
      cells = λ x y. segments_more half path x y more;
      formed = All-nil IsRect;
      held = λ r h. All-get_or (HoldsAround r half) path 0 no_point (omega arith) h;
      inside = λ r h. All-nil (IsRectIn r);
    })

or_shift : (p q r : Bool) → ((p || (q || false)) || r) ≡ (p || (q || r))
or_shift true q r = refl
or_shift false true r = refl
or_shift false false r = refl

pub widened_more : (half : ℤ) (path : List Point) (k : ℕ) (from : Point) (rects made : List Rect) → k < length path → pos 0 ≤ℤ half → All (IsPointWithin (2 ^ 24)) path
    → made ≡ rects ++ widened half (from, point_at path k) ∷ [] → AreWidened half path k from rects → AreWidened half path (k + 1) (point_at path k) made
widened_more half path k from rects made lt thick near e h =
    let to : Point = point_at path k in
    rw e
    (record {
      near = All-get_or (IsPointWithin (2 ^ 24)) path k no_point lt near;
      cells = λ x y.
          ap (λ b. b || covered_from half to (drop (k + 1) path) x y) (list_any-append (λ r. is_in_rect r x y) rects (widened half (from, to) ∷ []))
          ∙ or_shift (is_in_rects rects x y) (is_in_rect (widened half (from, to)) x y) (covered_from half to (drop (k + 1) path) x y)
          ∙ ap (λ l. is_in_rects rects x y || covered_from half from l x y) (sym (drop_more path k no_point lt))
          ∙ h.cells x y;
      formed = All-push IsRect rects (widened half (from, to)) h.formed (widened_formed half from to thick);
      held = λ r held. All-get_or (HoldsAround r half) path k no_point lt held;
      inside = λ r held. All-push (IsRectIn r) rects (widened half (from, to)) (h.inside r held) (widened_inside half from to r (h.held r held) (All-get_or (HoldsAround r half) path k no_point lt held));
    })

pub widened_end : (half : ℤ) (path : List Point) (k : ℕ) (from : Point) (rects : List Rect) → length path ≤ k → AreWidened half path k from rects → (x y : ℤ) → is_in_rects rects x y ≡ wire_covers half path x y
widened_end half path k from rects le h x y =
    sym (or-false (is_in_rects rects x y)) ∙ ap (λ l. is_in_rects rects x y || covered_from half from l x y) (sym (drop_all k path le)) ∙ h.cells x y

-- ---- a wire of one point

pub one_cells : (half : ℤ) (path : List Point) (rects : List Rect) → length path ≡ 1 → rects ≡ widened half (point_at path 0, point_at path 0) ∷ [] → (x y : ℤ) → is_in_rects rects x y ≡ wire_covers half path x y
one_cells half [] rects one e x y = absurd (omega arith)
one_cells half (p ∷ []) rects one e x y = ap (λ l. is_in_rects l x y) e
one_cells half (p ∷ q ∷ qs) rects one e x y = absurd (omega arith)

pub one_inside : (half : ℤ) (path : List Point) (rects : List Rect) (r : Rect) → 0 < length path → rects ≡ widened half (point_at path 0, point_at path 0) ∷ [] → All (HoldsAround r half) path → All (IsRectIn r) rects
one_inside half path rects r some e held =
    let p : Point = point_at path 0 in
    let here : HoldsAround r half p = All-get_or (HoldsAround r half) path 0 no_point some held in
    rw e (All-push (IsRectIn r) [] (widened half (p, p)) (All-nil (IsRectIn r)) (widened_inside half p p r here here))
