-- Strips that lie beside others have no cell in common with them.
use Rattle.std.proofs.Common.{◌≡◌, ℕ, ◌+◌, ◌<◌, Bool, true, false, cond, ◌&&◌, ◌||◌, List, [], ◌∷◌, length, take, refl, sym, ap, ◌∙◌, arith}
use Rattle.std.specs.Prelude.{ℤ, ◌≤ℤ◌, ◌<ℤ◌, filter}
use Rattle.std.specs.List.{All, AllByRecursion}
use Rattle.std.proofs.lemmas.Int.{ints}
use Rattle.std.proofs.lemmas.List.Elements.{All-head, All-tail, All-more, All-weaker}
use Rattle.mask_region.specs.declared.strips.Strip.{Strip}
use Rattle.mask_region.specs.Columns.{reaches, IsInColumns}
use Rattle.mask_region.specs.Strips.{is_in_strip, is_in, Follows, IsBanded, Banded}
use Rattle.mask_region.proofs.Banding.{no_strip, strip_at}

all_kept : {X : Type 0} (P : X → Type 0) (p : X → Bool) (xs : List X) → AllByRecursion P xs → AllByRecursion P (filter p xs)
all_kept P p [] h = tt
all_kept P p (x ∷ xs) h = go (p x) (all_kept P p xs h.1)
  where
    go : (b : Bool) → AllByRecursion P (filter p xs) → AllByRecursion P (cond b (x ∷ filter p xs) (filter p xs))
    go true rest = (h.0, rest)
    go false rest = rest

banded_kept : (p : Strip → Bool) (strips : List Strip) → IsBanded strips → IsBanded (filter p strips)
banded_kept p [] h = tt
banded_kept p (s ∷ strips) h = go (p s) (all_kept (Follows s) p strips h.1) (banded_kept p strips h.2)
  where
    go : (b : Bool) → AllByRecursion (Follows s) (filter p strips) → IsBanded (filter p strips) → IsBanded (cond b (s ∷ filter p strips) (filter p strips))
    go true follow rest = (h.0, follow, rest)
    go false follow rest = rest

pub kept_banded : (p : Strip → Bool) (strips made : List Strip) → made ≡ filter p strips → Banded strips → Banded made
kept_banded p strips made e h = rw e (record { each = banded_kept p strips h.each })

-- a cell in the columns is in no strip that does not reach into them
not_reached : (left right x y : ℤ) (s : Strip) → left ≤ℤ x → x <ℤ right → reaches left right s ≡ false → is_in_strip s x y ≡ false
not_reached left right x y s low high h = grind (arith, ints, h)

kept_cell : (left right x y : ℤ) (strips : List Strip) → left ≤ℤ x → x <ℤ right → is_in (filter (reaches left right) strips) x y ≡ is_in strips x y
kept_cell left right x y [] low high = refl
kept_cell left right x y (s ∷ strips) low high = go (reaches left right s) refl (kept_cell left right x y strips low high)
  where
    go : (b : Bool) → reaches left right s ≡ b → is_in (filter (reaches left right) strips) x y ≡ is_in strips x y
        → is_in (cond b (s ∷ filter (reaches left right) strips) (filter (reaches left right) strips)) x y ≡ (is_in_strip s x y || is_in strips x y)
    go true e rest = ap (λ r. is_in_strip s x y || r) rest
    go false e rest = rest ∙ ap (λ b. b || is_in strips x y) (sym (not_reached left right x y s low high e))

inside_left : (left right x y : ℤ) (s : Strip) → IsInColumns left right s → is_in_strip s x y ≡ true → left ≤ℤ x
inside_left left right x y s h e = grind (arith, ints, h.left_of)

inside_right : (left right x y : ℤ) (s : Strip) → IsInColumns left right s → is_in_strip s x y ≡ true → x <ℤ right
inside_right left right x y s h e = grind (arith, ints, h.right_of)

in_columns : (left right x y : ℤ) (others : List Strip) → All (IsInColumns left right) others → is_in others x y ≡ true → (left ≤ℤ x) × (x <ℤ right)
in_columns left right x y [] h e = cc
in_columns left right x y (s ∷ others) h e = go (is_in_strip s x y) refl e (λ there. in_columns left right x y others (All-tail (IsInColumns left right) s others h) there)
  where
    go : (b : Bool) → is_in_strip s x y ≡ b → (b || is_in others x y) ≡ true → (is_in others x y ≡ true → (left ≤ℤ x) × (x <ℤ right)) → (left ≤ℤ x) × (x <ℤ right)
    go true here all rest = (inside_left left right x y s (All-head (IsInColumns left right) s others h) here, inside_right left right x y s (All-head (IsInColumns left right) s others h) here)
    go false here all rest = rest all

and_where : (a r b : Bool) → (b ≡ true → a ≡ r) → (a && b) ≡ (r && b)
and_where a r true f = ap (λ c. c && true) (f refl)
and_where true true false f = refl
and_where true false false f = refl
and_where false true false f = refl
and_where false false false f = refl

pub kept_cells : (left right : ℤ) (strips others made : List Strip) → made ≡ filter (reaches left right) strips → All (IsInColumns left right) others → (x y : ℤ)
    → (is_in made x y && is_in others x y) ≡ (is_in strips x y && is_in others x y)
kept_cells left right strips others made e h x y =
    ap (λ l. is_in l x y && is_in others x y) e
    ∙ and_where (is_in (filter (reaches left right) strips) x y) (is_in strips x y) (is_in others x y)
    (λ there. let columns = in_columns left right x y others h there in kept_cell left right x y strips columns.0 columns.1)

-- ---- the columns so far

pub columns_more : (strips : List Strip) (k : ℕ) (left right l r : ℤ) → k < length strips → l ≤ℤ left → right ≤ℤ r → l ≤ℤ (strip_at strips k).x0 → (strip_at strips k).x1 ≤ℤ r
    → All (IsInColumns left right) (take k strips) → All (IsInColumns l r) (take (k + 1) strips)
columns_more strips k left right l r lt a b c d h =
    All-more (IsInColumns l r) strips k no_strip lt
    (All-weaker (IsInColumns left right) (IsInColumns l r) (λ s in'. record { left_of = omega (arith, ints, in'.left_of); right_of = omega (arith, ints, in'.right_of) }) (take k strips) h)
    (record { left_of = c; right_of = d })

and_comm : (p q : Bool) → (p && q) ≡ (q && p)
and_comm true true = refl
and_comm true false = refl
and_comm false true = refl
and_comm false false = refl

-- Clipped one after the other, two regions still have the same meet.
pub clipped_meet : (a b a2 b2 : Bool) → (a2 && b) ≡ (a && b) → (b2 && a2) ≡ (b && a2) → (a2 && b2) ≡ (a && b)
clipped_meet a b a2 b2 e f = and_comm a2 b2 ∙ f ∙ and_comm b a2 ∙ e
