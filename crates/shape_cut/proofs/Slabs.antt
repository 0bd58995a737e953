-- A polygon, cut slab by slab.
use Rattle.std.proofs.Common.{◌≡◌, ℕ, ◌+◌, ◌<◌, ◌≤◌, ◌^◌, Bool, true, false, cond, not, ◌&&◌, ◌||◌, List, [], ◌∷◌, ◌++◌, length, take, refl, sym, ap, ◌∙◌, subst, arith}
use Rattle.std.specs.Prelude.{ℤ, pos, neg_ℤ, ◌≤ℤ◌, ◌<ℤ◌, int_lt, Option, Some, None}
use Rattle.std.specs.List.{All, AllByRecursion}
use Rattle.std.proofs.lemmas.Int.{ints, by_lt_z}
use Rattle.std.specs.List.Sorted.{IsPermutation}
use Rattle.std.proofs.lemmas.List.{take_more, take_all}
use Rattle.std.proofs.lemmas.List.Elements.{All-nil, All-get_or, recursion_from_All}
use Rattle.std.proofs.lemmas.List.Sorted.{sum_by-IsPermutation, length_permutation, All-permutation}
use Rattle.plane_geom.specs.declared.shapes.Point.{Point}
use Rattle.plane_geom.specs.declared.shapes.Rect.{Rect}
use Rattle.plane_geom.specs.Bounds.{IsPointWithin}
use Rattle.plane_geom.specs.Cells.{is_between, is_in_rects}
use Rattle.plane_geom.specs.Ends.{is_odd, flips}
use Rattle.plane_geom.specs.Covering.{outline, polygon_covers, IsRect, IsRectIn, HoldsAround, IsOutline}
use Rattle.plane_geom.proofs.Lists.{all_push, all_weaker}
use Rattle.shape_cut.specs.Slabs.{nearest, IsOutside, IsNextRow, IsNextOf, IsNextCornerRow, IsAcross, AreCrossings, IsPaired}
use Rattle.shape_cut.proofs.Segments.{no_point, point_at}
use Rattle.shape_cut.proofs.Crossings.{outline_even, flips_count, covers_same, covers_none}

-- ---- the next row

outside_more : (y n m : ℤ) (p : Point) → m ≤ℤ n → IsOutside y n p → IsOutside y m p
outside_more y n m p le h = record { above = λ up. let a = h.above up in omega (arith, ints) }

outside_below : (y n : ℤ) (p : Point) → p.y ≤ℤ y → IsOutside y n p
outside_below y n p h = record { above = λ up. absurd (omega (arith, ints)) }

row_reached : (points : List Point) (k : ℕ) (r : Rect) → k < length points → All (HoldsAround r (pos 0)) points → (point_at points k).y ≤ℤ r.y1
row_reached points k r lt h = let held : HoldsAround r (pos 0) (point_at points k) = All-get_or (HoldsAround r (pos 0)) points k no_point lt h in omega (arith, ints, held.above)

-- The corner with index k becomes the next row.
row_first : (points : List Point) (k : ℕ) (y n : ℤ) → k < length points → All (IsPointWithin (2 ^ 24)) points → y <ℤ (point_at points k).y → (point_at points k).y ≤ℤ n
    → AllByRecursion (IsOutside y n) (take k points) → IsNextRow points (take k points ++ point_at points k ∷ []) y (point_at points k).y
row_first points k y n lt near up le each =
    let p : Point = point_at points k in
    let within : IsPointWithin (2 ^ 24) p = All-get_or (IsPointWithin (2 ^ 24)) points k no_point lt near in
    record {
      later = up;
      near = omega (arith, ints, within.y.high);
      each = all_push (IsOutside y p.y) (take k points) p (all_weaker (IsOutside y n) (IsOutside y p.y) (take k points) (λ q h. outside_more y n p.y q le h) each) (record { above = λ h. omega (arith, ints) });
      reached = λ r h. row_reached points k r lt h;
    }

row_kept : (points taken : List Point) (y n : ℤ) (p : Point) → IsOutside y n p → IsNextRow points taken y n → IsNextRow points (taken ++ p ∷ []) y n
row_kept points taken y n p out h = record { later = h.later; near = h.near; each = all_push (IsOutside y n) taken p h.each out; reached = h.reached }

next_some : (points : List Point) (k : ℕ) (y n : ℤ) (b c : Bool) → int_lt y (point_at points k).y ≡ b → int_lt (point_at points k).y n ≡ c → k < length points → All (IsPointWithin (2 ^ 24)) points
    → IsNextRow points (take k points) y n → IsNextOf points (take k points ++ point_at points k ∷ []) y (cond b (Some (cond c (point_at points k).y n)) (Some n))
next_some points k y n true true e f lt near h = row_first points k y n lt near (grind (arith, ints, e)) (grind (arith, ints, f)) h.each
next_some points k y n true false e f lt near h = row_kept points (take k points) y n (point_at points k) (record { above = λ up. grind (arith, ints, f) }) h
next_some points k y n false c e f lt near h = row_kept points (take k points) y n (point_at points k) (outside_below y n (point_at points k) (grind (arith, ints, e))) h

next_none : (points : List Point) (k : ℕ) (y : ℤ) (b : Bool) → int_lt y (point_at points k).y ≡ b → k < length points → All (IsPointWithin (2 ^ 24)) points
    → AllByRecursion (λ p. p.y ≤ℤ y) (take k points) → IsNextOf points (take k points ++ point_at points k ∷ []) y (cond b (Some (point_at points k).y) None)
next_none points k y true e lt near h =
    let p : Point = point_at points k in
    row_first points k y p.y lt near (grind (arith, ints, e)) (omega (arith, ints)) (all_weaker (λ q. q.y ≤ℤ y) (IsOutside y p.y) (take k points) (λ q le. outside_below y p.y q le) h)
next_none points k y false e lt near h = all_push (λ p. p.y ≤ℤ y) (take k points) (point_at points k) h (grind (arith, ints, e))

next_more_of : (points : List Point) (k : ℕ) (y : ℤ) (next : Option ℤ) → k < length points → All (IsPointWithin (2 ^ 24)) points → IsNextOf points (take k points) y next
    → IsNextOf points (take k points ++ point_at points k ∷ []) y (nearest y (point_at points k).y next)
next_more_of points k y None lt near h = next_none points k y (int_lt y (point_at points k).y) refl lt near h
next_more_of points k y (Some n) lt near h = next_some points k y n (int_lt y (point_at points k).y) (int_lt (point_at points k).y n) refl refl lt near h

pub next_more : (points : List Point) (k : ℕ) (y : ℤ) (next made : Option ℤ) → k < length points → All (IsPointWithin (2 ^ 24)) points → made ≡ nearest y (point_at points k).y next
    → IsNextCornerRow points (take k points) y next → IsNextCornerRow points (take (k + 1) points) y made
next_more points k y next made lt near e h =
    let P : List Point → Type 0 = λ l. IsNextOf points l y (nearest y (point_at points k).y next) in
    rw e (record { is = subst P (sym (take_more points k no_point lt)) (next_more_of points k y next lt near h.is) })

pub next_start : (points : List Point) (y : ℤ) → IsNextCornerRow points [] y None
next_start points y = record { is = tt }

pub next_all : (points : List Point) (k : ℕ) (y : ℤ) (next : Option ℤ) → length points ≤ k → IsNextCornerRow points (take k points) y next → IsNextCornerRow points points y next
next_all points k y next le h = let P : List Point → Type 0 = λ l. IsNextCornerRow points l y next in subst P (take_all k points le) h

-- ---- the slabs so far

-- Below the row y the rectangles cover the cells of the polygon.
pub record IsCutTo (points : List Point) (y : ℤ) (rects : List Rect) : Type 0 where
  pub low : neg_ℤ (pos (2 ^ 24)) ≤ℤ y
  pub high : y ≤ℤ pos (2 ^ 24)
  pub cells : (x z : ℤ) → z <ℤ y → is_in_rects rects x z ≡ polygon_covers points x z
  pub none : (x z : ℤ) → y ≤ℤ z → is_in_rects rects x z ≡ false
  pub formed : All IsRect rects
  pub inside : (r : Rect) → All (HoldsAround r (pos 0)) points → All (IsRectIn r) rects

above_all : (y z : ℤ) (p : Point) → y ≡ neg_ℤ (pos (2 ^ 24)) → z <ℤ y → IsPointWithin (2 ^ 24) p → int_lt z p.y ≡ true
above_all y z p e h near = grind (arith, ints, e, near.y.low)

pub cut_start : (points : List Point) (y : ℤ) (rects : List Rect) → y ≡ neg_ℤ (pos (2 ^ 24)) → All (IsPointWithin (2 ^ 24)) points → rects ≡ [] → IsCutTo points y rects
cut_start points y rects e near none =
    rw none
    (record {
      low = omega (arith, ints, e);
      high = omega (arith, ints, e);
      cells = λ x z below. sym (covers_none points x z true (all_weaker (IsPointWithin (2 ^ 24)) (λ p. int_lt z p.y ≡ true) points (λ p h. above_all y z p e below h) (recursion_from_All (IsPointWithin (2 ^ 24)) points near)));
      none = λ x z h. refl;
      formed = All-nil IsRect;
      inside = λ r h. All-nil (IsRectIn r);
    })

-- in the slab from y up to n every corner is on the side where it is at y
same_side : (y n z : ℤ) (p : Point) → y ≤ℤ z → z <ℤ n → IsOutside y n p → int_lt z p.y ≡ int_lt y p.y
same_side y n z p low up h =
    by_lt_z y p.y (λ above. let a = h.above above in grind (arith, ints)) (λ below. grind (arith, ints))

slab_cells : (points : List Point) (y n : ℤ) (found ends : List ℤ) (x z : ℤ) → IsNextRow points points y n → AreCrossings points (outline points) y found → IsPermutation found ends → y ≤ℤ z → z <ℤ n
    → flips ends x ≡ polygon_covers points x z
slab_cells points y n found ends x z next crossings sorted low up =
    flips_count ends x
    ∙ ap is_odd (sum_by-IsPermutation (λ t. cond (not (int_lt x t)) 1 0) found ends sorted ∙ crossings.count x)
    ∙ sym (covers_same points x y z (all_weaker (IsOutside y n) (λ p. int_lt z p.y ≡ int_lt y p.y) points (λ p h. same_side y n z p low up h) next.each))

pub ends_even : (points : List Point) (y : ℤ) (found ends : List ℤ) → IsOutline points → AreCrossings points (outline points) y found → IsPermutation found ends → is_odd (length ends) ≡ false
ends_even points y found ends formed crossings sorted = ap is_odd (length_permutation found ends sorted ∙ crossings.many) ∙ outline_even points y formed

or_and_none : (p q r : Bool) → r ≡ false → (p || (q && r)) ≡ p
or_and_none true q r h = refl
or_and_none false true r h = h
or_and_none false false r h = refl

or_and_now : (p q r : Bool) → p ≡ false → r ≡ true → (p || (q && r)) ≡ q
or_and_now p true r h e = rw (h, e) refl
or_and_now p false r h e = rw h refl

not_in : (y n z : ℤ) → z <ℤ y → is_between y n z ≡ false
not_in y n z h = grind (arith, ints)

not_in_above : (y n z : ℤ) → n ≤ℤ z → is_between y n z ≡ false
not_in_above y n z h = grind (arith, ints)

now_in : (y n z : ℤ) → y ≤ℤ z → z <ℤ n → is_between y n z ≡ true
now_in y n z a b = grind (arith, ints)

all_across : (r : Rect) (found ends : List ℤ) → IsPermutation found ends → All (IsAcross r) found → All (IsAcross r) ends
all_across r found ends sorted h = All-permutation (IsAcross r) found ends sorted h

pub cut_more : (points : List Point) (y n : ℤ) (rects made : List Rect) (found ends : List ℤ) → IsCutTo points y rects → IsNextRow points points y n → AreCrossings points (outline points) y found → IsPermutation found ends
    → IsPaired rects ends (length ends) y n made → IsCutTo points n made
cut_more points y n rects made found ends h next crossings sorted paired =
    let all : take (length ends) ends ≡ ends = take_all (length ends) ends (omega arith) in
    let later : y <ℤ n = next.later in
    let cells : (x z : ℤ) → is_in_rects made x z ≡ (is_in_rects rects x z || (flips ends x && is_between y n z)) =
    λ x z. paired.cells x z ∙ ap (λ l. is_in_rects rects x z || (flips l x && is_between y n z)) all in
    record {
      low = omega (arith, ints, h.low);
      high = next.near;
      cells = λ x z below. by_lt_z z y
          (λ lower. cells x z ∙ or_and_none (is_in_rects rects x z) (flips ends x) (is_between y n z) (not_in y n z lower) ∙ h.cells x z lower)
          (λ here. cells x z ∙ or_and_now (is_in_rects rects x z) (flips ends x) (is_between y n z) (h.none x z here) (now_in y n z here below) ∙ slab_cells points y n found ends x z next crossings sorted here below);
      none = λ x z above. cells x z ∙ or_and_none (is_in_rects rects x z) (flips ends x) (is_between y n z) (not_in_above y n z above) ∙ h.none x z (omega (arith, ints));
      formed = paired.formed h.formed;
      inside = λ r held.
          paired.inside r (h.inside r held) (all_across r found ends sorted (crossings.across r held))
          (λ some. crossings.low r held (let same = length_permutation found ends sorted in omega arith)) (next.reached r held);
    }

below_all : (y z : ℤ) (p : Point) → p.y ≤ℤ y → y ≤ℤ z → int_lt z p.y ≡ false
below_all y z p a b = grind (arith, ints)

pub cut_end : (points : List Point) (y : ℤ) (rects : List Rect) → IsCutTo points y rects → IsNextCornerRow points points y None → (x z : ℤ) → is_in_rects rects x z ≡ polygon_covers points x z
cut_end points y rects h next x z =
    by_lt_z z y (λ below. h.cells x z below)
    (λ above. h.none x z above ∙ sym (covers_none points x z false (all_weaker (λ p. p.y ≤ℤ y) (λ p. int_lt z p.y ≡ false) points (λ p le. below_all y z p le above) next.is)))
