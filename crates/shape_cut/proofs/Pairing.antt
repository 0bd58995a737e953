-- Rectangles between ends, two by two.
use Rattle.std.proofs.Common.{◌≡◌, ℕ, ◌+◌, ◌<◌, ◌≤◌, Bool, true, false, not, ◌&&◌, ◌||◌, List, [], ◌∷◌, ◌++◌, length, take, refl, sym, ap, ◌∙◌, subst, arith}
use Rattle.std.specs.Prelude.{ℤ, pos, ◌≤ℤ◌, ◌<ℤ◌}
use Rattle.std.specs.List.{All}
use Rattle.std.specs.Ordering.{int_cmp, is_lt, MatchOrdering}
use Rattle.std.specs.List.Sorted.{IsSorted}
use Rattle.std.specs.Cmp.{int_ranks, int_cmp_total}
use Rattle.std.specs.declared.cmp.Ordering.{Ordering}
use Rattle.std.specs.declared.cmp.Ordering.TheVariants.{Less, Equal, Greater}
use Rattle.std.proofs.lemmas.Int.{ints}
use Rattle.std.proofs.lemmas.List.{take_more, length-take-le, get_or-take}
use Rattle.std.proofs.lemmas.List.Elements.{All-push, All-get_or, All-from_get_or}
use Rattle.std.proofs.lemmas.List.Folds.{list_any-append}
use Rattle.std.proofs.lemmas.List.Sorted.{ranks_by, sorted_far}
use Rattle.plane_geom.specs.declared.shapes.Rect.{Rect}
use Rattle.plane_geom.specs.Cells.{is_between, is_in_rect, is_in_rects}
use Rattle.plane_geom.specs.Ends.{is_odd, flips}
use Rattle.plane_geom.specs.Covering.{IsRect, IsRectIn}
use Rattle.plane_geom.proofs.Ends.{odd_more, even_same, flips-pair}
use Rattle.shape_cut.specs.Slabs.{x_at, AreNotFalling, IsAcross, IsPaired}

-- ---- sorted ends

not_above : (o : Ordering) (a b : ℤ) → MatchOrdering o (a <ℤ b) (a ≡ b) (b <ℤ a) → is_lt o ≡ false → b ≤ℤ a
not_above Less a b h e = cc
not_above Equal a b h e = omega (arith, ints, h)
not_above Greater a b h e = omega (arith, ints, h)

pub not_falling : (ends : List ℤ) → IsSorted int_cmp ends → AreNotFalling ends
not_falling ends h =
    record {
      each = λ i k le lt.
          not_above (int_cmp (x_at ends k) (x_at ends i)) (x_at ends k) (x_at ends i) (int_ranks (x_at ends k) (x_at ends i))
          (sorted_far (λ x y. is_lt (int_cmp x y)) (ranks_by int_cmp_total (λ (x : ℤ). x)) ends h i k (pos 0) le lt);
    }

-- ---- the steps of the code

or_none : (p r : Bool) → p ≡ (p || (false && r))
or_none true r = refl
or_none false r = refl

pub pair_start : (old : List Rect) (ends : List ℤ) (y0 y1 : ℤ) → IsPaired old ends 0 y0 y1 old
pair_start old ends y0 y1 =
    record {
      in_range = omega arith;
      even = refl;
      cells = λ x z. or_none (is_in_rects old x z) (is_between y0 y1 z);
      formed = λ h. h;
      inside = λ r h a low high. h;
    }

take_two : (ends : List ℤ) (k : ℕ) → k + 1 < length ends → take (k + 2) ends ≡ (take k ends ++ x_at ends k ∷ []) ++ x_at ends (k + 1) ∷ []
take_two ends k h =
    let e : k + 2 ≡ (k + 1) + 1 = omega arith in
    ap (λ n. take n ends) e ∙ take_more ends (k + 1) (pos 0) h ∙ ap (λ l. l ++ x_at ends (k + 1) ∷ []) (take_more ends k (pos 0) (omega arith))

before_it : (ends : List ℤ) (k : ℕ) → k < length ends → AreNotFalling ends → All (λ t. t ≤ℤ x_at ends k) (take k ends)
before_it ends k lt sorted =
    All-from_get_or (λ t. t ≤ℤ x_at ends k) (take k ends) (pos 0)
    (λ i h. let short : i < k = omega (arith, length-take-le k ends (omega arith)) in rw (get_or-take k ends i (pos 0) short) (sorted.each i k (omega arith) lt))

spans_more : (ends : List ℤ) (k : ℕ) (x : ℤ) → AreNotFalling ends → is_odd k ≡ false → k + 1 < length ends → flips (take (k + 2) ends) x ≡ (flips (take k ends) x || is_between (x_at ends k) (x_at ends (k + 1)) x)
spans_more ends k x sorted even h =
    ap (λ l. flips l x) (take_two ends k h)
    ∙ flips-pair (take k ends) (x_at ends k) (x_at ends (k + 1)) x (before_it ends k (omega arith) sorted) (ap is_odd (length-take-le k ends (omega arith)) ∙ even) (sorted.each k (k + 1) (omega arith) h)

pair_cells : (old p q r : Bool) → ((old || (p && r)) || ((q && r) || false)) ≡ (old || ((p || q) && r))
pair_cells true p q r = refl
pair_cells false true q true = refl
pair_cells false true true false = refl
pair_cells false true false false = refl
pair_cells false false true true = refl
pair_cells false false true false = refl
pair_cells false false false r = refl

pub pair_more : (old : List Rect) (ends : List ℤ) (k : ℕ) (y0 y1 : ℤ) (rects made : List Rect) (t : Rect) → AreNotFalling ends → y0 <ℤ y1 → k + 1 < length ends
    → t ≡ record { x0 = x_at ends k; y0 = y0; x1 = x_at ends (k + 1); y1 = y1 } → made ≡ rects ++ t ∷ [] → IsPaired old ends k y0 y1 rects → IsPaired old ends (k + 2) y0 y1 made
pair_more old ends k y0 y1 rects made t sorted order lt is e h =
    rw (e, is)
    (record {
      in_range = omega arith;
      even = ap is_odd (two_more k) ∙ odd_more (k + 1) ∙ ap not (odd_more k) ∙ ap (λ b. not (not b)) h.even;
      cells = λ x z.
          list_any-append (λ r. is_in_rect r x z) rects (it ∷ [])
          ∙ ap (λ b. b || (is_in_rect it x z || false)) (h.cells x z)
          ∙ pair_cells (is_in_rects old x z) (flips (take k ends) x) (is_between (x_at ends k) (x_at ends (k + 1)) x) (is_between y0 y1 z)
          ∙ ap (λ b. is_in_rects old x z || (b && is_between y0 y1 z)) (sym (spans_more ends k x sorted h.even lt));
      formed = λ f. All-push IsRect rects it (h.formed f) (record { across = sorted.each k (k + 1) (omega arith) lt; up = omega (arith, ints) });
      inside = λ r f across low high.
          let left : IsAcross r (x_at ends k) = All-get_or (IsAcross r) ends k (pos 0) (omega arith) across in
          let right : IsAcross r (x_at ends (k + 1)) = All-get_or (IsAcross r) ends (k + 1) (pos 0) lt across in
          All-push (IsRectIn r) rects it (h.inside r f across low high) (record { left = left.left; below = low (omega arith); right = right.right; above = high });
    })
  where
    it : Rect
    it = record { x0 = x_at ends k; y0 = y0; x1 = x_at ends (k + 1); y1 = y1 }

    two_more : (k : ℕ) → k + 2 ≡ (k + 1) + 1
    two_more k = omega arith

pub pair_end : (old : List Rect) (ends : List ℤ) (k : ℕ) (y0 y1 : ℤ) (rects : List Rect) → is_odd (length ends) ≡ false → length ends ≤ k + 1 → IsPaired old ends k y0 y1 rects → IsPaired old ends (length ends) y0 y1 rects
pair_end old ends k y0 y1 rects even le h =
    let P : ℕ → Type 0 = λ n. IsPaired old ends n y0 y1 rects in
    subst P (even_same (length ends) k even h.even h.in_range le) h
