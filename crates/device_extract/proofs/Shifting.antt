-- Regions that are shifted strip by strip.
use Rattle.std.proofs.Common.{◌≡◌, ℕ, zero, suc, ◌+◌, ◌<◌, ◌≤◌, ◌^◌, not, ◌&&◌, ◌||◌, List, [], ◌∷◌, ◌++◌, length, map, take, refl, sym, ap, ◌∙◌, subst, arith, get_or, ◌⊎◌, inl, inr}
use Rattle.std.specs.Prelude.{ℤ, ◌+ℤ◌, ◌-ℤ◌, pos, neg_ℤ, int_lt}
use Rattle.std.specs.List.{All, AllByRecursion}
use Rattle.std.proofs.lemmas.Int.{ints}
use Rattle.std.proofs.lemmas.List.{map-append, take_more, take_all}
use Rattle.std.proofs.lemmas.List.Elements.{recursion_from_All}
use Rattle.plane_geom.specs.Bounds.{IsWithin}
use Rattle.plane_geom.specs.Cells.{is_between}
use Rattle.mask_region.specs.declared.strips.Strip.{Strip}
use Rattle.mask_region.specs.Strips.{is_in_strip, is_in, IsStrip, Follows, IsBanded, Banded, IsStripWithin, AreStripsWithin, AreRegionsWithin}
use Rattle.mask_region.proofs.Areas.{all_take}
use Rattle.device_extract.specs.Contacts.{strip_shifted, IsStep}

step_within : (right up : ℤ) → IsStep right up → IsWithin 1 right × IsWithin 1 up
step_within right up h = by_step h.one
  where
    by_step : ((up ≡ pos 0) × ((right ≡ pos 1) ⊎ (right ≡ neg_ℤ (pos 1)))) ⊎ ((right ≡ pos 0) × ((up ≡ pos 1) ⊎ (up ≡ neg_ℤ (pos 1)))) → IsWithin 1 right × IsWithin 1 up
    by_step (inl (p, inl q)) = (record { low = omega (arith, ints, q); high = omega (arith, ints, q) }, record { low = omega (arith, ints, p); high = omega (arith, ints, p) })
    by_step (inl (p, inr q)) = (record { low = omega (arith, ints, q); high = omega (arith, ints, q) }, record { low = omega (arith, ints, p); high = omega (arith, ints, p) })
    by_step (inr (p, inl q)) = (record { low = omega (arith, ints, p); high = omega (arith, ints, p) }, record { low = omega (arith, ints, q); high = omega (arith, ints, q) })
    by_step (inr (p, inr q)) = (record { low = omega (arith, ints, p); high = omega (arith, ints, p) }, record { low = omega (arith, ints, q); high = omega (arith, ints, q) })

banded_take : (k : ℕ) (strips : List Strip) → IsBanded strips → IsBanded (take k strips)
banded_take zero strips h = tt
banded_take (suc k) [] h = tt
banded_take (suc k) (s ∷ strips) h = (h.0, all_take (Follows s) k strips h.1, banded_take k strips h.2)

module _ (right up : ℤ) (within_right : IsWithin 1 right) (within_up : IsWithin 1 up) where
  shift_strip : (s : Strip) → IsStrip s → IsStripWithin (2 ^ 24) s → IsStrip (strip_shifted right up s)
  shift_strip s h w = record {
    wide = let a = h.wide in omega (arith, ints, a);
    high = let a = h.high in omega (arith, ints, a);
    left = let a = w.x0.low in let b = within_right.low in omega (arith, ints, a, b);
    below = let a = w.y0.low in let b = within_up.low in omega (arith, ints, a, b);
    right = let a = w.x1.high in let b = within_right.high in omega (arith, ints, a, b);
    above = let a = w.y1.high in let b = within_up.high in omega (arith, ints, a, b);
  }

  shift_follows : (s t : Strip) → Follows s t → Follows (strip_shifted right up s) (strip_shifted right up t)
  shift_follows s t f = record {
    later = let a = f.later in omega (arith, ints, a);
    apart = λ lt. let a = f.apart (omega (arith, ints, lt)) in omega (arith, ints, a);
    band = λ e. let a = f.band (omega (arith, ints, e)) in omega (arith, ints, a);
    right = λ e. let a = f.right (omega (arith, ints, e)) in omega (arith, ints, a);
  }

  follows_all : (s : Strip) (ts : List Strip) → AllByRecursion (Follows s) ts → AllByRecursion (Follows (strip_shifted right up s)) (map (strip_shifted right up) ts)
  follows_all s [] h = tt
  follows_all s (t ∷ ts) h = (shift_follows s t h.0, follows_all s ts h.1)

  shift_banded : (strips : List Strip) → IsBanded strips → AllByRecursion (IsStripWithin (2 ^ 24)) strips → IsBanded (map (strip_shifted right up) strips)
  shift_banded [] h w = tt
  shift_banded (s ∷ ts) h w = (shift_strip s h.0 w.0, follows_all s ts h.1, shift_banded ts h.2 w.1)

-- one strip more
pub shifted_more : (right up : ℤ) (strips out new : List Strip) (k : ℕ) (d : Strip) → k < length strips → out ≡ map (strip_shifted right up) (take k strips) → new ≡ out ++ strip_shifted right up (get_or strips k d) ∷ []
    → new ≡ map (strip_shifted right up) (take (k + 1) strips)
shifted_more right up strips out new k d lt is more =
    more ∙ ap (λ l. l ++ strip_shifted right up (get_or strips k d) ∷ []) is ∙ sym (map-append (strip_shifted right up) (take k strips) (get_or strips k d ∷ [])) ∙ ap (map (strip_shifted right up)) (sym (take_more strips k d lt))

pub shifted_banded : (right up : ℤ) (strips out : List Strip) (k : ℕ) (d : Strip) → IsStep right up → Banded strips → AreStripsWithin (2 ^ 24) strips → k < length strips → out ≡ map (strip_shifted right up) (take k strips)
    → Banded (out ++ strip_shifted right up (get_or strips k d) ∷ [])
shifted_banded right up strips out k d step banded within lt is =
    let (in_right, in_up) = step_within right up step in
    subst Banded (sym (shifted_more right up strips out (out ++ strip_shifted right up (get_or strips k d) ∷ []) k d lt is refl))
    (record { each = shift_banded right up in_right in_up (take (k + 1) strips) (banded_take (k + 1) strips banded.each) (all_take (IsStripWithin (2 ^ 24)) (k + 1) strips (recursion_from_All (IsStripWithin (2 ^ 24)) strips within.each)) })

below_shifted : (a x r : ℤ) → int_lt x (a +ℤ r) ≡ int_lt (x -ℤ r) a
below_shifted a x r = grind (arith, ints)

-- a span that is shifted has a number where the span has the number that lies so far before it
pub span_shifted : (a b x r : ℤ) → is_between (a +ℤ r) (b +ℤ r) x ≡ is_between a b (x -ℤ r)
span_shifted a b x r = λ i. not (below_shifted a x r i) && below_shifted b x r i

cell_shifted : (right up : ℤ) (s : Strip) (x y : ℤ) → is_in_strip (strip_shifted right up s) x y ≡ is_in_strip s (x -ℤ right) (y -ℤ up)
cell_shifted right up s x y = λ i. span_shifted s.x0 s.x1 x right i && span_shifted s.y0 s.y1 y up i

pub shifted_cells : (right up : ℤ) (strips : List Strip) (x y : ℤ) → is_in (map (strip_shifted right up) strips) x y ≡ is_in strips (x -ℤ right) (y -ℤ up)
shifted_cells right up [] x y = refl
shifted_cells right up (s ∷ strips) x y = λ i. cell_shifted right up s x y i || shifted_cells right up strips x y i

pub shifted_all : (right up : ℤ) (strips out : List Strip) (k : ℕ) → length strips ≤ k → out ≡ map (strip_shifted right up) (take k strips) → (x y : ℤ) → is_in out x y ≡ is_in strips (x -ℤ right) (y -ℤ up)
shifted_all right up strips out k le is x y = ap (λ (l : List Strip). is_in l x y) (is ∙ ap (map (strip_shifted right up)) (take_all k strips le)) ∙ shifted_cells right up strips x y

-- a strip with these coordinates
pub strip_is : (right up : ℤ) (s t : Strip) → t.y0 ≡ s.y0 +ℤ up → t.y1 ≡ s.y1 +ℤ up → t.x0 ≡ s.x0 +ℤ right → t.x1 ≡ s.x1 +ℤ right → t ≡ strip_shifted right up s
strip_is right up s t y0 y1 x0 x1 = λ i. record { y0 = y0 i; y1 = y1 i; x0 = x0 i; x1 = x1 i }

-- one of several regions within a bound
pub within_at : (bound : ℕ) (regions from : List (List Strip)) (k : ℕ) (r : List Strip) → from ≡ regions → AreRegionsWithin bound regions → k < length from → r ≡ get_or from k r → AreStripsWithin bound r
within_at bound regions from k r same h lt is =
    subst (AreStripsWithin bound) (sym is) (subst (λ (l : List (List Strip)). All (AreStripsWithin bound) l) (sym same) h.each k r lt)
