-- Bands that are put behind others.
use Rattle.std.proofs.Common.{◌≡◌, ℕ, ◌+◌, ◌<◌, ◌≤◌, ◌^◌, Bool, true, false, not, ◌&&◌, ◌||◌, List, [], ◌∷◌, ◌++◌, length, take, refl, sym, ap, ◌∙◌, subst, arith}
use Rattle.std.specs.Prelude.{ℤ, pos, neg_ℤ, ◌≤ℤ◌, ◌<ℤ◌}
use Rattle.std.specs.List.{All, AllByRecursion}
use Rattle.std.proofs.lemmas.Int.{ints, by_lt_z}
use Rattle.std.proofs.lemmas.List.{take_more, take_all, length-take-le}
use Rattle.std.proofs.lemmas.List.Elements.{All-weaker, All-get_or}
use Rattle.std.proofs.lemmas.List.Folds.{list_any-append}
use Rattle.plane_geom.specs.Bounds.{IsWithin}
use Rattle.plane_geom.specs.Cells.{is_between}
use Rattle.plane_geom.specs.Ends.{is_odd, flips}
use Rattle.plane_geom.proofs.Ends.{odd_more, even_same, flips-pair}
use Rattle.plane_geom.proofs.Lists.{all_push, all_weaker}
use Rattle.mask_region.specs.declared.strips.Strip.{Strip}
use Rattle.mask_region.specs.Rows.{end_at, IsRising, IsRow}
use Rattle.mask_region.specs.Strips.{is_in_strip, is_in, IsStrip, Follows, IsBanded, Banded}
use Rattle.mask_region.specs.Sweeping.{ArePassed}
use Rattle.mask_region.proofs.Rows.{rising_before}
use Rattle.mask_region.proofs.Banding.{all_with, all_strips, banded-push}

-- The strip ends below the band, or it is one of the band, and the ends from index k on are behind it.
pub record IsBefore (y0 y1 : ℤ) (ends : List ℤ) (k : ℕ) (s : Strip) : Type 0 where
  pub below : y0 <ℤ s.y1 → s.y0 ≡ y0
  pub above : y0 <ℤ s.y1 → s.y1 ≡ y1
  pub right : y0 <ℤ s.y1 → k < length ends → s.x1 <ℤ end_at ends k

-- The spans of the first k ends are put behind the old strips.
pub record ArePut (old : List Strip) (ends : List ℤ) (k : ℕ) (y0 y1 : ℤ) (out : List Strip) : Type 0 where
  pub in_range : k ≤ length ends
  pub even : is_odd k ≡ false
  pub banded : IsBanded out
  pub before : AllByRecursion (IsBefore y0 y1 ends k) out
  pub cells : (x z : ℤ) → is_in out x z ≡ (is_in old x z || (flips (take k ends) x && is_between y0 y1 z))

before_old : (y0 y1 : ℤ) (ends : List ℤ) (s : Strip) → s.y1 ≤ℤ y0 → IsBefore y0 y1 ends 0 s
before_old y0 y1 ends s h = record { below = λ up. absurd (omega (arith, ints)); above = λ up. absurd (omega (arith, ints)); right = λ up k. absurd (omega (arith, ints)) }

or_none : (p q r : Bool) → q ≡ false → p ≡ (p || (q && r))
or_none true q r h = refl
or_none false true r h = sym h ∙ cc
or_none false false r h = refl

pub put_start : (old : List Strip) (ends : List ℤ) (y0 y1 : ℤ) → Banded old → ArePassed old y0 → ArePut old ends 0 y0 y1 old
put_start old ends y0 y1 banded passed =
    record {
      in_range = omega arith;
      even = refl;
      banded = banded.each;
      before = all_weaker (λ s. s.y1 ≤ℤ y0) (IsBefore y0 y1 ends 0) old (λ s h. before_old y0 y1 ends s h) passed.each;
      cells = λ x z. or_none (is_in old x z) false (is_between y0 y1 z) refl;
    }

follows_put : (y0 y1 : ℤ) (ends : List ℤ) (k : ℕ) (s t : Strip) → y0 <ℤ y1 → k < length ends → t.y0 ≡ y0 → t.y1 ≡ y1 → t.x0 ≡ end_at ends k → IsBefore y0 y1 ends k s → IsStrip s → Follows s t
follows_put y0 y1 ends k s t high lt e0 e1 ex b st =
    by_lt_z y0 s.y1
    (λ up.
    let low : s.y0 ≡ y0 = b.below up in
    let top : s.y1 ≡ y1 = b.above up in
    let right : s.x1 <ℤ end_at ends k = b.right up lt in
    record {
      later = omega (arith, ints, low, e0);
      apart = λ h. absurd (omega (arith, ints, low, e0));
      band = λ h. top ∙ sym e1;
      right = λ h. rw ex right;
    })
    (λ down.
    record {
      later = omega (arith, ints, e0, st.high);
      apart = λ h. omega (arith, ints, e0);
      band = λ h. absurd (omega (arith, ints, e0, st.high));
      right = λ h. absurd (omega (arith, ints, e0, st.high));
    })

still_before : (y0 y1 : ℤ) (ends : List ℤ) (k : ℕ) (s : Strip) → k + 1 < length ends → IsRising ends → IsBefore y0 y1 ends k s → IsBefore y0 y1 ends (k + 2) s
still_before y0 y1 ends k s lt rising b =
    record {
      below = b.below;
      above = b.above;
      right = λ up h.
          let here : s.x1 <ℤ end_at ends k = b.right up (omega arith) in
          let one : end_at ends k <ℤ end_at ends (k + 1) = rising.each k lt in
          let two : end_at ends (k + 1) <ℤ end_at ends (k + 2) = two_on ends k rising h in
          omega (arith, ints);
    }
  where
    two_on : (ends : List ℤ) (k : ℕ) → IsRising ends → k + 2 < length ends → end_at ends (k + 1) <ℤ end_at ends (k + 2)
    two_on ends k rising h =
        let e : (k + 1) + 1 ≡ k + 2 = omega arith in
        let P : ℕ → Type 0 = λ n. n < length ends → end_at ends (k + 1) <ℤ end_at ends n in
        subst P e (rising.each (k + 1)) h

it_before : (y0 y1 : ℤ) (ends : List ℤ) (k : ℕ) (t : Strip) → IsRising ends → t.y0 ≡ y0 → t.y1 ≡ y1 → t.x1 ≡ end_at ends (k + 1) → IsBefore y0 y1 ends (k + 2) t
it_before y0 y1 ends k t rising e0 e1 ex =
    record {
      below = λ up. e0;
      above = λ up. e1;
      right = λ up h.
          let e : (k + 1) + 1 ≡ k + 2 = omega arith in
          let P : ℕ → Type 0 = λ n. n < length ends → end_at ends (k + 1) <ℤ end_at ends n in
          rw ex (subst P e (rising.each (k + 1)) h);
    }

take_two : (ends : List ℤ) (k : ℕ) → k + 1 < length ends → take (k + 2) ends ≡ (take k ends ++ end_at ends k ∷ []) ++ end_at ends (k + 1) ∷ []
take_two ends k h =
    let e : k + 2 ≡ (k + 1) + 1 = omega arith in
    ap (λ n. take n ends) e ∙ take_more ends (k + 1) (pos 0) h ∙ ap (λ l. l ++ end_at ends (k + 1) ∷ []) (take_more ends k (pos 0) (omega arith))

spans_more : (ends : List ℤ) (k : ℕ) (x : ℤ) → IsRising ends → is_odd k ≡ false → k + 1 < length ends → flips (take (k + 2) ends) x ≡ (flips (take k ends) x || is_between (end_at ends k) (end_at ends (k + 1)) x)
spans_more ends k x rising even h =
    let up : end_at ends k <ℤ end_at ends (k + 1) = rising.each k h in
    let before : All (λ e. e ≤ℤ end_at ends k) (take k ends) = All-weaker (λ e. e <ℤ end_at ends k) (λ e. e ≤ℤ end_at ends k) (λ e lt. omega (arith, ints)) (take k ends) (rising_before ends k rising (omega arith)) in
    ap (λ l. flips l x) (take_two ends k h)
    ∙ flips-pair (take k ends) (end_at ends k) (end_at ends (k + 1)) x before (ap is_odd (length-take-le k ends (omega arith)) ∙ even) (omega (arith, ints))

put_cells : (old s p q r : Bool) → s ≡ (q && r) → ((old || (p && r)) || (s || false)) ≡ (old || ((p || q) && r))
put_cells old s p q r e = rw e (go old p q r)
  where
    go : (old p q r : Bool) → ((old || (p && r)) || ((q && r) || false)) ≡ (old || ((p || q) && r))
    go true p q r = refl
    go false true q true = refl
    go false true true false = refl
    go false true false false = refl
    go false false true true = refl
    go false false true false = refl
    go false false false r = refl

pub put_more : (old : List Strip) (ends : List ℤ) (k : ℕ) (y0 y1 : ℤ) (out : List Strip) (t : Strip) → IsRow ends → y0 <ℤ y1 → neg_ℤ (pos (2 ^ 25)) ≤ℤ y0 → y1 ≤ℤ pos (2 ^ 25) → k + 1 < length ends
    → t.y0 ≡ y0 → t.y1 ≡ y1 → t.x0 ≡ end_at ends k → t.x1 ≡ end_at ends (k + 1) → ArePut old ends k y0 y1 out → ArePut old ends (k + 2) y0 y1 (out ++ t ∷ [])
put_more old ends k y0 y1 out t is_row high low top lt e0 e1 ex0 ex1 h =
    let up : end_at ends k <ℤ end_at ends (k + 1) = is_row.rising.each k lt in
    let left : IsWithin (2 ^ 25) (end_at ends k) = All-get_or (IsWithin (2 ^ 25)) ends k (pos 0) (omega arith) is_row.rising.within in
    let right : IsWithin (2 ^ 25) (end_at ends (k + 1)) = All-get_or (IsWithin (2 ^ 25)) ends (k + 1) (pos 0) lt is_row.rising.within in
    let strip : IsStrip t = record {
      wide = omega (arith, ints, ex0, ex1);
      high = omega (arith, ints, e0, e1);
      left = omega (arith, ints, ex0);
      below = omega (arith, ints, e0);
      right = omega (arith, ints, ex1);
      above = omega (arith, ints, e1);
    } in
    record {
      in_range = omega arith;
      even = ap is_odd (two_more k) ∙ odd_more (k + 1) ∙ ap not (odd_more k) ∙ ap (λ b. not (not b)) h.even;
      banded = banded-push out t h.banded strip (all_with (IsBefore y0 y1 ends k) IsStrip (λ s. Follows s t) out (λ s b st. follows_put y0 y1 ends k s t high (omega arith) e0 e1 ex0 b st) h.before (all_strips out h.banded));
      before = all_push (IsBefore y0 y1 ends (k + 2)) out t (all_weaker (IsBefore y0 y1 ends k) (IsBefore y0 y1 ends (k + 2)) out (λ s b. still_before y0 y1 ends k s lt is_row.rising b) h.before) (it_before y0 y1 ends k t is_row.rising e0 e1 ex1);
      cells = λ x z.
          list_any-append (λ s. is_in_strip s x z) out (t ∷ [])
          ∙ ap (λ b. b || (is_in_strip t x z || false)) (h.cells x z)
          ∙ put_cells (is_in old x z) (is_in_strip t x z) (flips (take k ends) x) (is_between (end_at ends k) (end_at ends (k + 1)) x) (is_between y0 y1 z) (rw (ex0, ex1, e0, e1) refl)
          ∙ ap (λ b. is_in old x z || (b && is_between y0 y1 z)) (sym (spans_more ends k x is_row.rising h.even lt));
    }
  where
    two_more : (k : ℕ) → k + 2 ≡ (k + 1) + 1
    two_more k = omega arith

all_ended : (y0 y1 : ℤ) (ends : List ℤ) (k : ℕ) (s : Strip) → y0 ≤ℤ y1 → IsBefore y0 y1 ends k s → s.y1 ≤ℤ y1
all_ended y0 y1 ends k s le b = by_lt_z y0 s.y1 (λ up. let top : s.y1 ≡ y1 = b.above up in omega (arith, ints, top)) (λ down. omega (arith, ints))

pub put_passed : (old : List Strip) (ends : List ℤ) (k : ℕ) (y0 y1 : ℤ) (out : List Strip) → y0 ≤ℤ y1 → ArePut old ends k y0 y1 out → ArePassed out y1
put_passed old ends k y0 y1 out le h = record { each = all_weaker (IsBefore y0 y1 ends k) (λ s. s.y1 ≤ℤ y1) out (λ s b. all_ended y0 y1 ends k s le b) h.before }

pub put_end : (old : List Strip) (ends : List ℤ) (k : ℕ) (y0 y1 : ℤ) (out : List Strip) → IsRow ends → length ends ≤ k + 1 → ArePut old ends k y0 y1 out
    → (x z : ℤ) → is_in out x z ≡ (is_in old x z || (flips ends x && is_between y0 y1 z))
put_end old ends k y0 y1 out is_row le h x z =
    let all : k ≡ length ends = even_same (length ends) k is_row.even h.even h.in_range le in
    h.cells x z ∙ ap (λ l. is_in old x z || (flips l x && is_between y0 y1 z)) (take_all k ends (omega arith))

-- A band of no height has no cells.
low_band : (p q : Bool) (y0 y1 z : ℤ) → y1 ≤ℤ y0 → p ≡ (p || (q && is_between y0 y1 z))
low_band p q y0 y1 z h =
    let none : is_between y0 y1 z ≡ false = grind (arith, ints) in
    rw none (go p q)
  where
    go : (p q : Bool) → p ≡ (p || (q && false))
    go true q = refl
    go false true = refl
    go false false = refl

pub put_nothing : (old : List Strip) (ends : List ℤ) (y0 y1 : ℤ) → y1 ≤ℤ y0 → (x z : ℤ) → is_in old x z ≡ (is_in old x z || (flips ends x && is_between y0 y1 z))
put_nothing old ends y0 y1 h x z = low_band (is_in old x z) (flips ends x) y0 y1 z h
