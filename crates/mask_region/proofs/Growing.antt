-- The placements that meet strips.
use Rattle.std.proofs.Common.{◌≡◌, ℕ, zero, suc, ◌+◌, ◌<◌, ◌≤◌, ◌^◌, Bool, true, false, ◌&&◌, ◌||◌, List, [], ◌∷◌, ◌++◌, length, take, refl, sym, ap, ◌∙◌, arith}
use Rattle.std.specs.Prelude.{ℤ, pos, ◌+ℤ◌, ◌-ℤ◌}
use Rattle.std.specs.List.{All, list_any}
use Rattle.std.proofs.Math.Bool.{or-false}
use Rattle.std.proofs.lemmas.Int.{ints}
use Rattle.std.proofs.lemmas.List.{take_all}
use Rattle.std.proofs.lemmas.List.Elements.{All-nil, All-push}
use Rattle.std.proofs.lemmas.List.Folds.{list_any-append, list_any_more}
use Rattle.plane_geom.specs.declared.shapes.Rect.{Rect}
use Rattle.plane_geom.specs.Bounds.{IsRectWithin}
use Rattle.plane_geom.specs.Cells.{is_between, numbers, is_in_rect, is_in_rects, is_met}
use Rattle.plane_geom.proofs.Counting.{list_any_agree, is_met_agree, is_met_apart, any_between}
use Rattle.mask_region.specs.declared.strips.Strip.{Strip}
use Rattle.mask_region.specs.Strips.{is_in_strip, is_in, IsStrip}
use Rattle.mask_region.proofs.Banding.{no_strip, strip_at}

rect_cells : (r : Rect) (x0 y0 x1 y1 x y : ℤ) → r.x0 ≡ x0 → r.y0 ≡ y0 → r.x1 ≡ x1 → r.y1 ≡ y1 → is_in_rect r x y ≡ (is_between x0 x1 x && is_between y0 y1 y)
rect_cells r x0 y0 x1 y1 x y a b c d = λ i. is_between (a i) (c i) x && is_between (b i) (d i) y

pub grown_cells : (side : ℕ) (s : Strip) (r : Rect) (x y : ℤ) → 0 < side → IsStrip s → r.x0 +ℤ pos side ≡ s.x0 +ℤ pos 1 → r.y0 +ℤ pos side ≡ s.y0 +ℤ pos 1 → r.x1 ≡ s.x1 → r.y1 ≡ s.y1
    → is_in_rect r x y ≡ is_met side (is_in_strip s) x y
grown_cells zero s r x y some h ex ey fx fy = absurd (omega arith)
grown_cells (suc n) s r x y some h ex ey fx fy =
    rect_cells r (s.x0 -ℤ pos n) (s.y0 -ℤ pos n) s.x1 s.y1 x y (omega (arith, ints, ex)) (omega (arith, ints, ey)) fx fy
    ∙ (λ i. sym (any_between n s.x0 s.x1 x h.wide) i && sym (any_between n s.y0 s.y1 y h.high) i)
    ∙ sym (is_met_apart (suc n) (is_between s.x0 s.x1) (is_between s.y0 s.y1) x y)

four_or : (p q r s : Bool) → ((p || q) || (r || s)) ≡ ((p || r) || (q || s))
four_or true q r s = refl
four_or false true true s = refl
four_or false true false s = refl
four_or false false r s = refl

any_or : {X : Type 0} (p q : X → Bool) (xs : List X) → list_any (λ x. p x || q x) xs ≡ (list_any p xs || list_any q xs)
any_or p q [] = refl
any_or p q (x ∷ xs) = ap (λ b. (p x || q x) || b) (any_or p q xs) ∙ four_or (p x) (q x) (list_any p xs) (list_any q xs)

any_none : {X : Type 0} (xs : List X) → list_any (λ (x : X). false) xs ≡ false
any_none [] = refl
any_none (x ∷ xs) = any_none xs

met_either : (side : ℕ) (p q : ℤ → ℤ → Bool) (x y : ℤ) → is_met side (λ i j. p i j || q i j) x y ≡ (is_met side p x y || is_met side q x y)
met_either side p q x y =
    list_any_agree (λ j. list_any (λ i. p i j || q i j) (numbers x side)) (λ j. list_any (λ i. p i j) (numbers x side) || list_any (λ i. q i j) (numbers x side)) (numbers y side)
    (λ j. any_or (λ i. p i j) (λ i. q i j) (numbers x side))
    ∙ any_or (λ j. list_any (λ i. p i j) (numbers x side)) (λ j. list_any (λ i. q i j) (numbers x side)) (numbers y side)

met_none : (side : ℕ) (x y : ℤ) → is_met side (λ i j. false) x y ≡ false
met_none side x y = list_any_agree (λ j. list_any (λ i. false) (numbers x side)) (λ j. false) (numbers y side) (λ j. any_none (numbers x side)) ∙ any_none (numbers y side)

-- The rectangles are those of the placements that meet the first k strips.
pub record AreGrown (side : ℕ) (strips : List Strip) (k : ℕ) (rects : List Rect) : Type 0 where
  pub within : All (IsRectWithin (2 ^ 25)) rects
  pub cells : (x y : ℤ) → is_in_rects rects x y ≡ is_met side (is_in (take k strips)) x y

pub grown_start : (side : ℕ) (strips : List Strip) (rects : List Rect) → rects ≡ [] → AreGrown side strips 0 rects
grown_start side strips rects e = rw e (record { within = All-nil (IsRectWithin (2 ^ 25)); cells = λ x y. sym (met_none side x y) })

pub grown_more : (side : ℕ) (strips : List Strip) (k : ℕ) (rects made : List Rect) (r : Rect) → k < length strips → AreGrown side strips k rects → IsRectWithin (2 ^ 25) r
    → ((x y : ℤ) → is_in_rect r x y ≡ is_met side (is_in_strip (strip_at strips k)) x y) → made ≡ rects ++ r ∷ [] → AreGrown side strips (k + 1) made
grown_more side strips k rects made r h so_far near cells e =
    rw e
    (record {
      within = All-push (IsRectWithin (2 ^ 25)) rects r so_far.within near;
      cells = λ x y.
          list_any-append (λ r. is_in_rect r x y) rects (r ∷ [])
          ∙ (λ i. so_far.cells x y i || or-false (is_in_rect r x y) i)
          ∙ ap (λ b. is_met side (is_in (take k strips)) x y || b) (cells x y)
          ∙ sym (met_either side (is_in (take k strips)) (is_in_strip (strip_at strips k)) x y)
          ∙ is_met_agree side (λ i j. is_in (take k strips) i j || is_in_strip (strip_at strips k) i j) (is_in (take (k + 1) strips)) x y
          (λ i j. sym (list_any_more (λ s. is_in_strip s i j) strips k no_strip h));
    })

pub grown_all : (side : ℕ) (strips : List Strip) (k : ℕ) (rects : List Rect) → length strips ≤ k → AreGrown side strips k rects → (x y : ℤ) → is_in_rects rects x y ≡ is_met side (is_in strips) x y
grown_all side strips k rects le h x y = h.cells x y ∙ ap (λ l. is_met side (is_in l) x y) (take_all k strips le)
