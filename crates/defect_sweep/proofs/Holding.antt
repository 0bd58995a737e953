-- Rectangles that hold others, and sets of cells.
use Rattle.std.proofs.Common.{◌≡◌, ℕ, ◌+◌, ◌<◌, ◌≤◌, Bool, true, false, ◌&&◌, ◌||◌, List, [], length, take, refl, sym, ◌∙◌, subst, arith, inl, inr}
use Rattle.std.specs.Prelude.{ℤ, ◌≤ℤ◌}
use Rattle.std.proofs.lemmas.Bool.{false≢true, cases_lt}
use Rattle.std.proofs.lemmas.Int.{ints}
use Rattle.std.proofs.lemmas.List.{take_all, get_or_past}
use Rattle.std.proofs.lemmas.List.Folds.{list_any_more}
use Rattle.plane_geom.specs.declared.shapes.Rect.{Rect}
use Rattle.plane_geom.specs.Cells.{is_between, is_in_rect}
use Rattle.mask_region.specs.declared.strips.Strip.{Strip}
use Rattle.mask_region.specs.Strips.{is_in, is_in_strip}
use Rattle.mask_region.proofs.Banding.{no_strip, strip_at}
use Rattle.defect_sweep.specs.Reaching.{Holds, HoldsStrip, HoldsStrips, HoldsAll, AreApart, placements_at}
use Rattle.net_trace.proofs.Lists.{last_or_before}

-- ---- spans and rectangles

span_held : (a0 a1 r0 r1 z : ℤ) → r0 ≤ℤ a0 → a1 ≤ℤ r1 → is_between a0 a1 z ≡ true → is_between r0 r1 z ≡ true
span_held a0 a1 r0 r1 z low high h = grind (arith, ints)

both_true : (p q r s : Bool) → (p ≡ true → r ≡ true) → (q ≡ true → s ≡ true) → (p && q) ≡ true → (r && s) ≡ true
both_true true true r s f g h = λ i. f refl i && g refl i
both_true true false r s f g h = absurd (false≢true h)
both_true false q r s f g h = absurd (false≢true h)

pub rect_held : (outer inner : Rect) → outer.x0 ≤ℤ inner.x0 → outer.y0 ≤ℤ inner.y0 → inner.x1 ≤ℤ outer.x1 → inner.y1 ≤ℤ outer.y1 → Holds outer inner
rect_held outer inner a b c d =
    record {
      cells = λ x y.
          both_true (is_between inner.x0 inner.x1 x) (is_between inner.y0 inner.y1 y) (is_between outer.x0 outer.x1 x) (is_between outer.y0 outer.y1 y)
          (span_held inner.x0 inner.x1 outer.x0 outer.x1 x a c) (span_held inner.y0 inner.y1 outer.y0 outer.y1 y b d);
    }

four_apart : (p q r s : Bool) → (p && r) ≡ false → ((p && q) && (r && s)) ≡ false
four_apart true true true s h = absurd (false≢true (sym h))
four_apart true true false s h = refl
four_apart true false r s h = refl
four_apart false q r s h = refl

four_above : (p q r s : Bool) → (q && s) ≡ false → ((p && q) && (r && s)) ≡ false
four_above true true true s h = h
four_above true true false s h = refl
four_above true false r s h = refl
four_above false q r s h = refl

pub apart_across : (a b : Rect) → ((z : ℤ) → (is_between a.x0 a.x1 z && is_between b.x0 b.x1 z) ≡ false) → AreApart a b
apart_across a b gap = record { cells = λ x y. four_apart (is_between a.x0 a.x1 x) (is_between a.y0 a.y1 y) (is_between b.x0 b.x1 x) (is_between b.y0 b.y1 y) (gap x) }

pub apart_up : (a b : Rect) → ((z : ℤ) → (is_between a.y0 a.y1 z && is_between b.y0 b.y1 z) ≡ false) → AreApart a b
apart_up a b gap = record { cells = λ x y. four_above (is_between a.x0 a.x1 x) (is_between a.y0 a.y1 y) (is_between b.x0 b.x1 x) (is_between b.y0 b.y1 y) (gap y) }

-- ---- strips

either_true : (p q r : Bool) → (p ≡ true → r ≡ true) → (q ≡ true → r ≡ true) → (p || q) ≡ true → r ≡ true
either_true true q r f g h = f refl
either_true false q r f g h = g h

pub strips_none : (r : Rect) → HoldsStrips r []
strips_none r = record { cells = λ x y h. absurd (false≢true h) }

-- the next of the strips
pub strips_more : (old new rect : Rect) (strips : List Strip) (k : ℕ) → k < length strips → Holds new old → Holds new rect → HoldsStrip rect (strip_at strips k) → HoldsStrips old (take k strips)
    → HoldsStrips new (take (k + 1) strips)
strips_more old new rect strips k lt first second here so_far =
    record {
      cells = λ x y h.
          either_true (is_in (take k strips) x y) (is_in_strip (strip_at strips k) x y) (is_in_rect new x y)
          (λ e. first.cells x y (so_far.cells x y e)) (λ e. second.cells x y (here.cells x y e))
          (sym (list_any_more (λ s. is_in_strip s x y) strips k no_strip lt) ∙ h);
    }

pub strips_all : (r : Rect) (strips : List Strip) (k : ℕ) → length strips ≤ k → HoldsStrips r (take k strips) → HoldsStrips r strips
strips_all r strips k le h = subst (λ ss. HoldsStrips r ss) (take_all k strips le) h

-- ---- lists of strips

-- The rectangle holds the first k of the lists.
pub record HoldsFirst (bounds : Rect) (lists : List (List Strip)) (k : ℕ) : Type 0 where
  pub each : (j : ℕ) → j < k → HoldsStrips bounds (placements_at lists j)

pub wider : (old new : Rect) (strips : List Strip) → Holds new old → HoldsStrips old strips → HoldsStrips new strips
wider old new strips h so_far = record { cells = λ x y e. h.cells x y (so_far.cells x y e) }

pub first_none : (bounds : Rect) (lists : List (List Strip)) → HoldsFirst bounds lists 0
first_none bounds lists = record { each = λ j lt. absurd (omega (arith, lt)) }

pub first_more : (old new rect : Rect) (lists : List (List Strip)) (k : ℕ) → Holds new old → Holds new rect → HoldsStrips rect (placements_at lists k) → HoldsFirst old lists k
    → HoldsFirst new lists (k + 1)
first_more old new rect lists k first second here so_far =
    record {
      each = λ j lt. elim (last_or_before j k lt) [
        | inl before ↦ wider old new (placements_at lists j) first (so_far.each j before)
        | inr same ↦ subst (λ n. HoldsStrips new (placements_at lists n)) (sym same) (wider rect new (placements_at lists k) second here)
      ];
    }

pub first_all : (bounds : Rect) (lists : List (List Strip)) (k : ℕ) → length lists ≤ k → HoldsFirst bounds lists k → HoldsAll bounds lists
first_all bounds lists k le h =
    record {
      each = λ j. elim (cases_lt j (length lists)) [
        | inl within ↦ h.each j (omega (arith, within, le))
        | inr past ↦ subst (λ ss. HoldsStrips bounds ss) (sym (get_or_past lists j [] past)) (strips_none bounds)
      ];
    }
