-- Strips lie within the bound of their cells.
use Rattle.std.proofs.Common.{◌≡◌, ℕ, Bool, true, false, ◌||◌, ◌^◌, List, [], ◌∷◌, refl, inl, inr, arith, ◌⊎◌}
use Rattle.std.specs.Prelude.{ℤ, pos, ◌-ℤ◌, slice_index_or}
use Rattle.std.specs.List.{All}
use Rattle.std.proofs.lemmas.Bool.{false≢true}
use Rattle.std.proofs.lemmas.Int.{ints}
use Rattle.std.proofs.lemmas.List.Elements.{All-get_or, All-head, All-tail, All-weaker, All-from_recursion}
use Rattle.std.proofs.lemmas.List.Folds.{list_any_at}
use Rattle.plane_geom.specs.declared.shapes.Rect.{Rect}
use Rattle.plane_geom.specs.Bounds.{IsRectWithin}
use Rattle.plane_geom.specs.Cells.{is_in_rect, is_in_rects}
use Rattle.mask_region.specs.declared.strips.Strip.{Strip}
use Rattle.mask_region.specs.Strips.{is_in_strip, is_in, IsStrip, Banded, IsCellWithin, IsStripWithin, AreStripsWithin}
use Rattle.mask_region.proofs.Banding.{all_strips}

first_cell : (s : Strip) → IsStrip s → is_in_strip s s.x0 s.y0 ≡ true
first_cell s h = grind (arith, ints, h.wide, h.high)

last_cell : (s : Strip) → IsStrip s → is_in_strip s (s.x1 -ℤ pos 1) (s.y1 -ℤ pos 1) ≡ true
last_cell s h = grind (arith, ints, h.wide, h.high)

by_corners : (bound : ℕ) (s : Strip) → IsStrip s → IsCellWithin bound s.x0 s.y0 → IsCellWithin bound (s.x1 -ℤ pos 1) (s.y1 -ℤ pos 1) → IsStripWithin bound s
by_corners bound s h a b =
    record {
      x0 = record { low = a.left; high = omega (arith, ints, a.right) };
      y0 = record { low = a.below; high = omega (arith, ints, a.above) };
      x1 = record { low = omega (arith, ints, a.left, h.wide); high = omega (arith, ints, b.right) };
      y1 = record { low = omega (arith, ints, a.below, h.high); high = omega (arith, ints, b.above) };
    }

pub within-cells : (bound : ℕ) (strips : List Strip) → Banded strips → ((x y : ℤ) → is_in strips x y ≡ true → IsCellWithin bound x y) → AreStripsWithin bound strips
within-cells bound strips banded cells =
    record {
      each = λ k d lt.
          let s : Strip = slice_index_or strips k d in
          let strip : IsStrip s = All-get_or IsStrip strips k d lt (All-from_recursion IsStrip strips (all_strips strips banded.each)) in
          by_corners bound s strip
          (cells s.x0 s.y0 (list_any_at (λ t. is_in_strip t s.x0 s.y0) strips k d lt (first_cell s strip)))
          (cells (s.x1 -ℤ pos 1) (s.y1 -ℤ pos 1) (list_any_at (λ t. is_in_strip t (s.x1 -ℤ pos 1) (s.y1 -ℤ pos 1)) strips k d lt (last_cell s strip)));
    }

pub or_cases : (p q : Bool) → (p || q) ≡ true → (p ≡ true) ⊎ (q ≡ true)
or_cases true q h = inl refl
or_cases false q h = inr h

rect_cell : (bound : ℕ) (r : Rect) (x y : ℤ) → IsRectWithin bound r → is_in_rect r x y ≡ true → IsCellWithin bound x y
rect_cell bound r x y h e =
    record {
      left = grind (arith, ints, h.x0.low);
      right = grind (arith, ints, h.x1.high);
      below = grind (arith, ints, h.y0.low);
      above = grind (arith, ints, h.y1.high);
    }

pub rects_cell : (bound : ℕ) (rects : List Rect) (x y : ℤ) → All (IsRectWithin bound) rects → is_in_rects rects x y ≡ true → IsCellWithin bound x y
rects_cell bound [] x y h e = absurd (false≢true e)
rects_cell bound (r ∷ rects) x y h e = elim (or_cases (is_in_rect r x y) (is_in_rects rects x y) e) [
  | inl here ↦ rect_cell bound r x y (All-head (IsRectWithin bound) r rects h) here
  | inr there ↦ rects_cell bound rects x y (All-tail (IsRectWithin bound) r rects h) there
]

strip_cell : (bound : ℕ) (s : Strip) (x y : ℤ) → IsStripWithin bound s → is_in_strip s x y ≡ true → IsCellWithin bound x y
strip_cell bound s x y h e =
    record {
      left = grind (arith, ints, h.x0.low);
      right = grind (arith, ints, h.x1.high);
      below = grind (arith, ints, h.y0.low);
      above = grind (arith, ints, h.y1.high);
    }

all_cell : (bound : ℕ) (strips : List Strip) (x y : ℤ) → All (IsStripWithin bound) strips → is_in strips x y ≡ true → IsCellWithin bound x y
all_cell bound [] x y h e = absurd (false≢true e)
all_cell bound (s ∷ strips) x y h e = elim (or_cases (is_in_strip s x y) (is_in strips x y) e) [
  | inl here ↦ strip_cell bound s x y (All-head (IsStripWithin bound) s strips h) here
  | inr there ↦ all_cell bound strips x y (All-tail (IsStripWithin bound) s strips h) there
]

-- A cell of strips within a bound is within it.
pub strips_cell : (bound : ℕ) (strips : List Strip) (x y : ℤ) → AreStripsWithin bound strips → is_in strips x y ≡ true → IsCellWithin bound x y
strips_cell bound strips x y h e = all_cell bound strips x y h.each e

pub within-rects : (bound : ℕ) (strips : List Strip) (rects : List Rect) → Banded strips → All (IsRectWithin bound) rects → ((x y : ℤ) → is_in strips x y ≡ true → is_in_rects rects x y ≡ true)
    → AreStripsWithin bound strips
within-rects bound strips rects banded h cells = within-cells bound strips banded (λ x y e. rects_cell bound rects x y h (cells x y e))

pub within-regions : (bound : ℕ) (strips a b : List Strip) → Banded strips → AreStripsWithin bound a → AreStripsWithin bound b → ((x y : ℤ) → is_in strips x y ≡ true → (is_in a x y || is_in b x y) ≡ true)
    → AreStripsWithin bound strips
within-regions bound strips a b banded ha hb cells =
    within-cells bound strips banded (λ x y e. elim (or_cases (is_in a x y) (is_in b x y) (cells x y e)) [
      | inl here ↦ strips_cell bound a x y ha here
      | inr there ↦ strips_cell bound b x y hb there
    ])

-- ---- a wider bound

rect_wider : (r : Rect) → IsRectWithin (2 ^ 24) r → IsRectWithin (2 ^ 25) r
rect_wider r h =
    record {
      x0 = record { low = omega (arith, ints, h.x0.low); high = omega (arith, ints, h.x0.high) };
      y0 = record { low = omega (arith, ints, h.y0.low); high = omega (arith, ints, h.y0.high) };
      x1 = record { low = omega (arith, ints, h.x1.low); high = omega (arith, ints, h.x1.high) };
      y1 = record { low = omega (arith, ints, h.y1.low); high = omega (arith, ints, h.y1.high) };
    }

pub rects_wider : (rects : List Rect) → All (IsRectWithin (2 ^ 24)) rects → All (IsRectWithin (2 ^ 25)) rects
rects_wider rects h = All-weaker (IsRectWithin (2 ^ 24)) (IsRectWithin (2 ^ 25)) rect_wider rects h
