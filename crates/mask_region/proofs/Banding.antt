-- Banded lists of strips, swept row by row.
use Rattle.std.proofs.Common.{◌≡◌, ℕ, zero, suc, ◌+◌, ◌<◌, ◌≤◌, ◌^◌, Bool, true, false, ◌||◌, List, [], ◌∷◌, ◌++◌, length, take, drop, refl, sym, ap, ◌∙◌, subst, arith}
use Rattle.std.specs.Prelude.{ℤ, pos, ◌≤ℤ◌, ◌<ℤ◌, slice_index_or}
use Rattle.std.specs.List.{All, AllByRecursion}
use Rattle.std.proofs.lemmas.Int.{ints, by_lt_z}
use Rattle.std.proofs.lemmas.List.{take_more, drop_more, drop_all, length_push}
use Rattle.std.proofs.lemmas.List.Elements.{All-nil, All-weaker, All-push}
use Rattle.plane_geom.specs.Bounds.{IsWithin}
use Rattle.plane_geom.specs.Cells.{is_between}
use Rattle.plane_geom.specs.Ends.{is_odd, flips}
use Rattle.plane_geom.proofs.Ends.{odd_more, flips-pair}
use Rattle.plane_geom.proofs.Lists.{all_push, all_weaker}
use Rattle.mask_region.proofs.Rows.{rising-push}
use Rattle.mask_region.specs.declared.strips.Strip.{Strip}
use Rattle.mask_region.specs.Rows.{IsRising}
use Rattle.mask_region.specs.Strips.{is_in_strip, is_in, IsStrip, Follows, IsBanded, Banded}
use Rattle.mask_region.specs.Sweeping.{IsFree, AreAhead, ArePassed, IsEdge, IsRowOf, IsSteady}

abbrev pub no_strip : Strip
no_strip = record { y0 = pos 0; y1 = pos 0; x0 = pos 0; x1 = pos 0 }

-- the strip with this index
abbrev pub strip_at : List Strip → ℕ → Strip
strip_at strips k = slice_index_or strips k no_strip

-- ---- facts of all elements

pub all_with : {X : Type 0} (P Q R : X → Type 0) (xs : List X) → ((x : X) → P x → Q x → R x) → AllByRecursion P xs → AllByRecursion Q xs → AllByRecursion R xs
all_with P Q R [] f h k = tt
all_with P Q R (x ∷ xs) f h k = (f x h.0 k.0, all_with P Q R xs f h.1 k.1)

-- ---- banded lists

pub banded-drop : (k : ℕ) (strips : List Strip) → IsBanded strips → IsBanded (drop k strips)
banded-drop zero strips h = h
banded-drop (suc k) [] h = tt
banded-drop (suc k) (s ∷ strips) h = banded-drop k strips h.2

pub all_strips : (strips : List Strip) → IsBanded strips → AllByRecursion IsStrip strips
all_strips [] h = tt
all_strips (s ∷ strips) h = (h.0, all_strips strips h.2)

pub banded-push : (strips : List Strip) (t : Strip) → IsBanded strips → IsStrip t → AllByRecursion (λ s. Follows s t) strips → IsBanded (strips ++ t ∷ [])
banded-push [] t h st f = (st, tt, tt)
banded-push (s ∷ strips) t h st f = (h.0, all_push (Follows s) strips t h.1 f.0, banded-push strips t h.2 st f.1)

-- ---- edges

follows_free : (y z : ℤ) (s t : Strip) → y <ℤ s.y0 → z <ℤ s.y0 → Follows s t → IsFree y z t
follows_free y z s t before up f = record { now = λ h. omega (arith, ints, f.later); ahead = λ h. omega (arith, ints, f.later) }

edge_before : (s : Strip) (ts : List Strip) (y : ℤ) → IsBanded (s ∷ ts) → y <ℤ s.y0 → IsEdge (s ∷ ts) y s.y0
edge_before s ts y h before =
    let strip : IsStrip s = h.0 in
    record {
      later = before;
      near = omega (arith, ints);
      free = λ z low up. (record { now = λ now. omega (arith, ints); ahead = λ ahead. up }, all_weaker (Follows s) (IsFree y z) ts (λ t f. follows_free y z s t before up f) h.1);
    }

follows_free_inside : (y z : ℤ) (s t : Strip) → s.y0 ≤ℤ y → y <ℤ s.y1 → z <ℤ s.y1 → Follows s t → IsFree y z t
follows_free_inside y z s t now more up f =
    by_lt_z s.y0 t.y0
    (λ above. let apart = f.apart above in record { now = λ h. omega (arith, ints, apart); ahead = λ h. omega (arith, ints, apart) })
    (λ same.
    let level : s.y0 ≡ t.y0 = omega (arith, ints, f.later) in
    let band : s.y1 ≡ t.y1 = f.band level in
    record { now = λ h. omega (arith, ints, band); ahead = λ h. omega (arith, ints, level) })

edge_inside : (s : Strip) (ts : List Strip) (y : ℤ) → IsBanded (s ∷ ts) → s.y0 ≤ℤ y → y <ℤ s.y1 → IsEdge (s ∷ ts) y s.y1
edge_inside s ts y h now more =
    let strip : IsStrip s = h.0 in
    record {
      later = more;
      near = omega (arith, ints);
      free = λ z low up. (record { now = λ below. up; ahead = λ ahead. omega (arith, ints) }, all_weaker (Follows s) (IsFree y z) ts (λ t f. follows_free_inside y z s t now more up f) h.1);
    }

first_ahead : (s : Strip) (ts : List Strip) (y : ℤ) → AreAhead (s ∷ ts) y → y <ℤ s.y1
first_ahead s ts y h = h.each.0

pub edge_at_before : (strips : List Strip) (i : ℕ) (y : ℤ) → i < length strips → Banded strips → y <ℤ (strip_at strips i).y0 → IsEdge (drop i strips) y (strip_at strips i).y0
edge_at_before strips i y h banded before =
    let P : List Strip → Type 0 = λ l. IsEdge l y (strip_at strips i).y0 in
    let here = drop_more strips i no_strip h in
    subst P (sym here) (edge_before (strip_at strips i) (drop (i + 1) strips) y (subst IsBanded here (banded-drop i strips banded.each)) before)

pub edge_at_inside : (strips : List Strip) (i : ℕ) (y : ℤ) → i < length strips → Banded strips → AreAhead (drop i strips) y → (strip_at strips i).y0 ≤ℤ y
    → IsEdge (drop i strips) y (strip_at strips i).y1
edge_at_inside strips i y h banded ahead now =
    let P : List Strip → Type 0 = λ l. IsEdge l y (strip_at strips i).y1 in
    let Q : List Strip → Type 0 = λ l. AreAhead l y in
    let here = drop_more strips i no_strip h in
    subst P (sym here)
    (edge_inside (strip_at strips i) (drop (i + 1) strips) y (subst IsBanded here (banded-drop i strips banded.each)) now
    (first_ahead (strip_at strips i) (drop (i + 1) strips) y (subst Q here ahead)))

pub edge_none : (strips : List Strip) (i : ℕ) (y next : ℤ) → length strips ≤ i → y <ℤ next → next ≤ℤ pos (2 ^ 25) → IsEdge (drop i strips) y next
edge_none strips i y next h up near =
    let P : List Strip → Type 0 = λ l. IsEdge l y next in
    subst P (sym (drop_all i strips h)) (record { later = up; near = near; free = λ z low high. tt })

pub edge_less : (strips : List Strip) (y next less : ℤ) → IsEdge strips y next → y <ℤ less → less ≤ℤ next → IsEdge strips y less
edge_less strips y next less h later le = record { later = later; near = omega (arith, ints, h.near); free = λ z low up. h.free z low (omega (arith, ints)) }

-- ---- passing

follows_ahead : (y : ℤ) (s t : Strip) → y <ℤ s.y1 → Follows s t → IsStrip t → y <ℤ t.y1
follows_ahead y s t more f st =
    by_lt_z s.y0 t.y0
    (λ above. let apart = f.apart above in omega (arith, ints, apart, st.high))
    (λ same. let band : s.y1 ≡ t.y1 = f.band (omega (arith, ints, f.later)) in omega (arith, ints, band))

pub ahead_from : (strips : List Strip) (k : ℕ) (y : ℤ) → k < length strips → Banded strips → y <ℤ (strip_at strips k).y1 → AreAhead (drop k strips) y
ahead_from strips k y h banded more =
    let here = drop_more strips k no_strip h in
    let rest : IsBanded (strip_at strips k ∷ drop (k + 1) strips) = subst IsBanded here (banded-drop k strips banded.each) in
    let P : List Strip → Type 0 = λ l. AreAhead l y in
    subst P (sym here)
    (record { each = (more, all_with (Follows (strip_at strips k)) IsStrip (λ t. y <ℤ t.y1) (drop (k + 1) strips) (λ t f st. follows_ahead y (strip_at strips k) t more f st) rest.1 (all_strips (drop (k + 1) strips) rest.2)) })

pub passed_more : (strips : List Strip) (k : ℕ) (y : ℤ) → k < length strips → ArePassed (take k strips) y → (strip_at strips k).y1 ≤ℤ y → ArePassed (take (k + 1) strips) y
passed_more strips k y h passed le =
    let P : List Strip → Type 0 = λ l. ArePassed l y in
    subst P (sym (take_more strips k no_strip h)) (record { each = all_push (λ s. s.y1 ≤ℤ y) (take k strips) (strip_at strips k) passed.each le })

pub ahead_none : (strips : List Strip) (k : ℕ) (y : ℤ) → length strips ≤ k → AreAhead (drop k strips) y
ahead_none strips k y h =
    let P : List Strip → Type 0 = λ l. AreAhead l y in
    subst P (sym (drop_all k strips h)) (record { each = tt })

pub passed_further : (strips : List Strip) (y z : ℤ) → y ≤ℤ z → ArePassed strips y → ArePassed strips z
passed_further strips y z up h = record { each = all_weaker (λ s. s.y1 ≤ℤ y) (λ s. s.y1 ≤ℤ z) strips (λ s le. omega (arith, ints)) h.each }

-- Strips that were passed have no cell in the row.
none_passed : (x z : ℤ) (s : Strip) → s.y1 ≤ℤ z → is_in_strip s x z ≡ false
none_passed x z s h = grind (arith, ints)

pub passed_none : (strips : List Strip) (y x z : ℤ) → ArePassed strips y → y ≤ℤ z → is_in strips x z ≡ false
passed_none [] y x z h up = refl
passed_none (s ∷ strips) y x z h up =
    let here : s.y1 ≤ℤ y = h.each.0 in
    rw (none_passed x z s (omega (arith, ints)), passed_none strips y x z (record { each = h.each.1 }) up) refl

-- ---- reading a row

-- All ends of the row so far lie left of the strip, where it begins at the row or below.
pub record IsRight (y : ℤ) (ends : List ℤ) (t : Strip) : Type 0 where
  pub each : t.y0 ≤ℤ y → All (λ e. e <ℤ t.x0) ends

-- The ends are those of the row y, but for the strips that are left.
pub record IsRowBut (strips left : List Strip) (y : ℤ) (ends : List ℤ) : Type 0 where
  pub rising : IsRising ends
  pub even : is_odd (length ends) ≡ false
  pub banded : IsBanded left
  pub ahead : AreAhead left y
  pub right : AllByRecursion (IsRight y ends) left
  pub free : (z : ℤ) → AllByRecursion (IsFree y z) strips → AllByRecursion (IsFree y z) left
  pub cells : (x z : ℤ) → y ≤ℤ z → AllByRecursion (IsFree y z) strips → is_in strips x z ≡ (flips ends x || is_in left x z)

rising-nil : IsRising []
rising-nil = record { each = λ k h. absurd (omega arith); within = All-nil (IsWithin (2 ^ 25)) }

all_right : (y : ℤ) (left : List Strip) → AllByRecursion (IsRight y []) left
all_right y [] = tt
all_right y (s ∷ left) = (record { each = λ h. All-nil (λ e. e <ℤ s.x0) }, all_right y left)

pub row_start : (strips : List Strip) (y : ℤ) → IsBanded strips → AreAhead strips y → IsRowBut strips strips y []
row_start strips y banded ahead =
    record {
      rising = rising-nil;
      even = refl;
      banded = banded;
      ahead = ahead;
      right = all_right y strips;
      free = λ z h. h;
      cells = λ x z low h. refl;
    }

-- The strip is in the row y, and reaches above the row z.
in_row : (x z : ℤ) (s : Strip) → s.y0 ≤ℤ z → z <ℤ s.y1 → is_in_strip s x z ≡ is_between s.x0 s.x1 x
in_row x z s low up = grind (arith, ints)

or_shift : (p q r : Bool) → (p || (q || r)) ≡ ((p || q) || r)
or_shift true q r = refl
or_shift false q r = refl

weaken_to : (x y : ℤ) (ends : List ℤ) → x ≤ℤ y → All (λ e. e <ℤ x) ends → All (λ e. e <ℤ y) ends
weaken_to x y ends up h = All-weaker (λ e. e <ℤ x) (λ e. e <ℤ y) (λ e lt. omega (arith, ints)) ends h

weaken_le : (x : ℤ) (ends : List ℤ) → All (λ e. e <ℤ x) ends → All (λ e. e ≤ℤ x) ends
weaken_le x ends h = All-weaker (λ e. e <ℤ x) (λ e. e ≤ℤ x) (λ e lt. omega (arith, ints)) ends h

still_right : (y : ℤ) (ends : List ℤ) (s t : Strip) → s.x0 <ℤ s.x1 → s.y0 ≤ℤ y → y <ℤ s.y1 → All (λ e. e <ℤ s.x0) ends → Follows s t → IsRight y ((ends ++ s.x0 ∷ []) ++ s.x1 ∷ []) t
still_right y ends s t wide now more before f =
    record {
      each = λ h.
          let level : s.y0 ≡ t.y0 = by_lt_z s.y0 t.y0 (λ above. absurd (let apart : s.y1 ≤ℤ t.y0 = f.apart above in omega (arith, ints))) (λ same. omega (arith, ints, f.later)) in
          let right : s.x1 <ℤ t.x0 = f.right level in
          All-push (λ e. e <ℤ t.x0) (ends ++ s.x0 ∷ []) s.x1 (All-push (λ e. e <ℤ t.x0) ends s.x0 (weaken_to s.x0 t.x0 ends (omega (arith, ints)) before) (omega (arith, ints))) right;
    }

pub row_more : (strips : List Strip) (s : Strip) (left : List Strip) (y : ℤ) (ends : List ℤ) → IsRowBut strips (s ∷ left) y ends → s.y0 ≤ℤ y
    → IsRowBut strips left y ((ends ++ s.x0 ∷ []) ++ s.x1 ∷ [])
row_more strips s left y ends h now =
    let strip : IsStrip s = h.banded.0 in
    let more : y <ℤ s.y1 = h.ahead.each.0 in
    let before : All (λ e. e <ℤ s.x0) ends = h.right.0.each now in
    let before_end : All (λ e. e <ℤ s.x1) (ends ++ s.x0 ∷ []) = All-push (λ e. e <ℤ s.x1) ends s.x0 (weaken_to s.x0 s.x1 ends (omega (arith, ints)) before) strip.wide in
    record {
      rising = rising-push (ends ++ s.x0 ∷ []) s.x1 (rising-push ends s.x0 h.rising (record { low = omega (arith, ints); high = omega (arith, ints) }) before) (record { low = omega (arith, ints); high = omega (arith, ints) }) before_end;
      even = rw (length_push (ends ++ s.x0 ∷ []) s.x1, length_push ends s.x0, odd_more (length ends + 1), odd_more (length ends), h.even) refl;
      banded = h.banded.2;
      ahead = record { each = h.ahead.each.1 };
      right = all_weaker (Follows s) (IsRight y ((ends ++ s.x0 ∷ []) ++ s.x1 ∷ [])) left (λ t f. still_right y ends s t strip.wide now more before f) h.banded.1;
      free = λ z f. (h.free z f).1;
      cells = λ x z low f.
          let up : z <ℤ s.y1 = (h.free z f).0.now now in
          h.cells x z low f
          ∙ ap (λ b. flips ends x || (b || is_in left x z)) (in_row x z s (omega (arith, ints)) up)
          ∙ or_shift (flips ends x) (is_between s.x0 s.x1 x) (is_in left x z)
          ∙ ap (λ b. b || is_in left x z) (sym (flips-pair ends s.x0 s.x1 x (weaken_le s.x0 ends before) h.even (omega (arith, ints, strip.wide))));
    }

or_false : (p q : Bool) → q ≡ false → (p || q) ≡ p
or_false true q h = refl
or_false false q h = h

row_end : (strips left : List Strip) (y : ℤ) (ends : List ℤ) → IsRowBut strips left y ends → ((x z : ℤ) → AllByRecursion (IsFree y z) left → is_in left x z ≡ false) → IsRowOf strips y ends
row_end strips left y ends h none =
    record {
      row = record { rising = h.rising; even = h.even };
      cells = λ x z low f. h.cells x z low f ∙ or_false (flips ends x) (is_in left x z) (none x z (h.free z f));
    }

above_strip : (x z : ℤ) (s : Strip) → z <ℤ s.y0 → is_in_strip s x z ≡ false
above_strip x z s h = grind (arith, ints)

pub none_above : (strips : List Strip) (x z : ℤ) → AllByRecursion (λ t. z <ℤ t.y0) strips → is_in strips x z ≡ false
none_above [] x z h = refl
none_above (s ∷ strips) x z h = rw (above_strip x z s h.0, none_above strips x z h.1) refl

pub row_last : (strips : List Strip) (k : ℕ) (all : List Strip) (y : ℤ) (ends : List ℤ) → length strips ≤ k → IsRowBut all (drop k strips) y ends → IsRowOf all y ends
row_last strips k all y ends le h =
    let P : List Strip → Type 0 = λ l. IsRowBut all l y ends in
    row_end all [] y ends (subst P (drop_all k strips le) h) (λ x z f. refl)

first_above : (s : Strip) (left : List Strip) (y x z : ℤ) → IsBanded (s ∷ left) → y <ℤ s.y0 → AllByRecursion (IsFree y z) (s ∷ left) → is_in (s ∷ left) x z ≡ false
first_above s left y x z banded up f =
    let here : z <ℤ s.y0 = f.0.ahead up in
    none_above (s ∷ left) x z (here, all_weaker (Follows s) (λ t. z <ℤ t.y0) left (λ t follows. omega (arith, ints, follows.later)) banded.1)

pub row_above : (strips : List Strip) (k : ℕ) (all : List Strip) (y : ℤ) (ends : List ℤ) → k < length strips → IsRowBut all (drop k strips) y ends → y <ℤ (strip_at strips k).y0 → IsRowOf all y ends
row_above strips k all y ends lt h up =
    let P : List Strip → Type 0 = λ l. IsRowBut all l y ends in
    let left : IsRowBut all (strip_at strips k ∷ drop (k + 1) strips) y ends = subst P (drop_more strips k no_strip lt) h in
    row_end all (strip_at strips k ∷ drop (k + 1) strips) y ends left (λ x z f. first_above (strip_at strips k) (drop (k + 1) strips) y x z left.banded up f)

pub row_step : (strips : List Strip) (k : ℕ) (all : List Strip) (y : ℤ) (ends made : List ℤ) → k < length strips → IsRowBut all (drop k strips) y ends → (strip_at strips k).y0 ≤ℤ y
    → made ≡ (ends ++ (strip_at strips k).x0 ∷ []) ++ (strip_at strips k).x1 ∷ [] → IsRowBut all (drop (k + 1) strips) y made
row_step strips k all y ends made lt h now e =
    let P : List Strip → Type 0 = λ l. IsRowBut all l y ends in
    rw e (row_more all (strip_at strips k) (drop (k + 1) strips) y ends (subst P (drop_more strips k no_strip lt) h) now)

-- ---- rows that go on

later_begins : (s t : Strip) (y : ℤ) → Follows s t → y <ℤ s.y1 → (s.y0 ≡ y → ⊥) → t.y0 ≡ y → ⊥
later_begins s t y f more apart here =
    by_lt_z s.y0 t.y0
    (λ up. let far : s.y1 ≤ℤ t.y0 = f.apart up in absurd (omega (arith, ints)))
    (λ same. apart (omega (arith, ints, f.later)))

none_begins : (s : Strip) (left : List Strip) (y : ℤ) → IsBanded (s ∷ left) → AreAhead (s ∷ left) y → (s.y0 ≡ y → ⊥) → IsSteady (s ∷ left) y
none_begins s left y banded ahead apart = record { each = (apart, all_weaker (Follows s) (λ t. t.y0 ≡ y → ⊥) left (λ t f. later_begins s t y f ahead.each.0 apart) banded.1) }

pub steady_at : (strips : List Strip) (k : ℕ) (y : ℤ) → k < length strips → Banded strips → AreAhead (drop k strips) y → ((strip_at strips k).y0 ≡ y → ⊥) → IsSteady (drop k strips) y
steady_at strips k y lt banded ahead apart =
    let P : List Strip → Type 0 = λ l. AreAhead l y in
    let Q : List Strip → Type 0 = λ l. IsSteady l y in
    let R : List Strip → Type 0 = λ l. IsBanded l in
    let e : drop k strips ≡ strip_at strips k ∷ drop (k + 1) strips = drop_more strips k no_strip lt in
    subst Q (sym e) (none_begins (strip_at strips k) (drop (k + 1) strips) y (subst R e (banded-drop k strips banded.each)) (subst P e ahead) apart)

pub steady_none : (strips : List Strip) (k : ℕ) (y : ℤ) → length strips ≤ k → IsSteady (drop k strips) y
steady_none strips k y le =
    let P : List Strip → Type 0 = λ l. IsSteady l y in
    subst P (sym (drop_all k strips le)) (record { each = tt })
