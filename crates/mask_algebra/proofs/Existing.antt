-- Expressions have masks on a layout within the range.
use Rattle.std.proofs.Common.{◌≡◌, ℕ, zero, suc, ◌+◌, ◌^◌, ◌<◌, Bool, true, false, cond, ◌&&◌, ◌||◌, List, [], ◌∷◌, ◌++◌, refl, sym, ap, ◌∙◌, subst, inl, inr, arith}
use Rattle.std.specs.Prelude.{ℤ, pos, neg_ℤ, ◌+ℤ◌, ◌≤ℤ◌, ◌<ℤ◌}
use Rattle.std.specs.List.{All, AllByRecursion}
use Rattle.std.specs.Str.{bytes_eq}
use Rattle.std.proofs.lemmas.Bool.{false≢true, or_left, or_right, and_parts}
use Rattle.std.proofs.lemmas.Int.{ints, by_lt_z}
use Rattle.std.proofs.lemmas.List.Elements.{All-head, All-tail}
use Rattle.std.proofs.lemmas.List.Folds.{list_any-append}
use Rattle.plane_geom.specs.Cells.{is_in_rect}
use Rattle.plane_geom.specs.Covering.{figure_of, covers}
use Rattle.cif_flatten.specs.declared.flat.Draw.{Draw}
use Rattle.cif_flatten.specs.Flat.{IsShapeWithin}
use Rattle.layer_map.specs.Truth.{Formula, holds, is_unbounded}
use Rattle.mask_region.specs.declared.strips.Strip.{Strip}
use Rattle.mask_region.specs.Strips.{is_in_strip, is_in, IsCellWithin}
use Rattle.mask_region.proofs.Within.{or_cases}
use Rattle.mask_algebra.specs.Masks.{layer_covers, is_true_at, IsMask, HaveMasks}
use Rattle.mask_algebra.specs.Layers.{square}
use Rattle.mask_algebra.proofs.Covered.{covered_in}
use Rattle.mask_algebra.proofs.Reaches.{has_reach}

-- ---- outside of the range nothing is covered

shape_cell : (d : Draw) (x y : ℤ) → IsShapeWithin (2 ^ 24) d.shape → covers (figure_of d.shape) x y ≡ true → IsCellWithin (2 ^ 24) x y
shape_cell d x y within e =
    let reach = has_reach (figure_of d.shape) within.formed within.reach in
    let near = within.reach reach.rect reach.is in
    let cell = covered_in (figure_of d.shape) reach.rect x y within.formed reach.is.round e in
    record {
      left = omega (arith, ints, near.x0.low, cell.left);
      right = omega (arith, ints, near.x1.high, cell.right);
      below = omega (arith, ints, near.y0.low, cell.below);
      above = omega (arith, ints, near.y1.high, cell.above);
    }

layer_cell : (draws : List Draw) (name : List ℕ) (x y : ℤ) → All (λ (d : Draw). IsShapeWithin (2 ^ 24) d.shape) draws
    → layer_covers draws name x y ≡ true → IsCellWithin (2 ^ 24) x y
layer_cell [] name x y within e = absurd (false≢true e)
layer_cell (d ∷ draws) name x y within e = elim
    (or_cases (bytes_eq d.layer name && covers (figure_of d.shape) x y) (layer_covers draws name x y) e) [
      | inl here ↦ shape_cell d x y (All-head (λ (d : Draw). IsShapeWithin (2 ^ 24) d.shape) d draws within)
          (and_parts (bytes_eq d.layer name) (covers (figure_of d.shape) x y) here).1
      | inr there ↦ layer_cell draws name x y (All-tail (λ (d : Draw). IsShapeWithin (2 ^ 24) d.shape) d draws within) there
    ]

in_square : (x y : ℤ) → IsCellWithin (2 ^ 24) x y → is_in_rect square x y ≡ true
in_square x y h = grind (arith, ints, h.left, h.right, h.below, h.above)

by_cases : {P : Type 0} (b : Bool) → (b ≡ true → P) → (b ≡ false → P) → P
by_cases true f g = f refl
by_cases false f g = g refl

layer_outside : (draws : List Draw) (x y : ℤ) → All (λ (d : Draw). IsShapeWithin (2 ^ 24) d.shape) draws → is_in_rect square x y ≡ false
    → (name : List ℕ) → layer_covers draws name x y ≡ false
layer_outside draws x y within out name = by_cases (layer_covers draws name x y)
    (λ e. absurd (false≢true (sym out ∙ in_square x y (layer_cell draws name x y within e)))) (λ none. none)

true_outside : (draws : List Draw) (f : Formula) (x y : ℤ) → All (λ (d : Draw). IsShapeWithin (2 ^ 24) d.shape) draws
    → is_in_rect square x y ≡ false → is_true_at draws f x y ≡ is_unbounded f
true_outside draws f x y within out = ap (holds f) (λ i name. layer_outside draws x y within out name i)

-- ---- the cells of a square that pass a test, one strip for each

cell : ℤ → ℤ → Strip
cell x y = record { x0 = x; y0 = y; x1 = x +ℤ pos 1; y1 = y +ℤ pos 1 }

-- the passing cells of a row among so many from x on
row : (ℤ → ℤ → Bool) → ℤ → ℕ → ℤ → List Strip
row test y zero x = []
row test y (suc n) x = cond (test x y) (cell x y ∷ row test y n (x +ℤ pos 1)) (row test y n (x +ℤ pos 1))

-- those of so many rows from y on
rows : (ℤ → ℤ → Bool) → ℤ → ℕ → ℕ → ℤ → List Strip
rows test x wide zero y = []
rows test x wide (suc n) y = row test y wide x ++ rows test x wide n (y +ℤ pos 1)

cell_x : (x y i j : ℤ) → is_in_strip (cell x y) i j ≡ true → i ≡ x
unfolding cell
cell_x x y i j h = grind (arith, ints)

cell_y : (x y i j : ℤ) → is_in_strip (cell x y) i j ≡ true → j ≡ y
unfolding cell
cell_y x y i j h = grind (arith, ints)

in_cell : (x y : ℤ) → is_in_strip (cell x y) x y ≡ true
unfolding cell
in_cell x y = grind (arith, ints)

passes : (test : ℤ → ℤ → Bool) (x y i j : ℤ) → i ≡ x → j ≡ y → test x y ≡ true → test i j ≡ true
passes test x y i j a b h = (λ k. test (a k) (b k)) ∙ h

sound_case : (test : ℤ → ℤ → Bool) (x y i j : ℤ) (b : Bool) (more : List Strip) → test x y ≡ b
    → is_in (cond b (cell x y ∷ more) more) i j ≡ true → (is_in more i j ≡ true → test i j ≡ true) → test i j ≡ true
sound_case test x y i j true more t h f = elim (or_cases (is_in_strip (cell x y) i j) (is_in more i j) h) [
  | inl here ↦ passes test x y i j (cell_x x y i j here) (cell_y x y i j here) t
  | inr there ↦ f there
]
sound_case test x y i j false more t h f = f h

row_sound : (test : ℤ → ℤ → Bool) (y : ℤ) (n : ℕ) (x i j : ℤ) → is_in (row test y n x) i j ≡ true → test i j ≡ true
unfolding row
row_sound test y zero x i j h = absurd (false≢true h)
row_sound test y (suc n) x i j h = sound_case test x y i j (test x y) (row test y n (x +ℤ pos 1)) refl h
    (row_sound test y n (x +ℤ pos 1) i j)

any_either : (xs ys : List Strip) (i j : ℤ) → is_in (xs ++ ys) i j ≡ (is_in xs i j || is_in ys i j)
any_either xs ys i j = list_any-append (λ s. is_in_strip s i j) xs ys

rows_sound : (test : ℤ → ℤ → Bool) (x : ℤ) (wide n : ℕ) (y i j : ℤ) → is_in (rows test x wide n y) i j ≡ true → test i j ≡ true
unfolding rows
rows_sound test x wide zero y i j h = absurd (false≢true h)
rows_sound test x wide (suc n) y i j h = elim
    (or_cases (is_in (row test y wide x) i j) (is_in (rows test x wide n (y +ℤ pos 1)) i j)
    (sym (any_either (row test y wide x) (rows test x wide n (y +ℤ pos 1)) i j) ∙ h)) [
      | inl here ↦ row_sound test y wide x i j here
      | inr there ↦ rows_sound test x wide n (y +ℤ pos 1) i j there
    ]

first_case : (x y : ℤ) (b : Bool) (more : List Strip) → b ≡ true → is_in (cond b (cell x y ∷ more) more) x y ≡ true
first_case x y true more h = or_left (is_in_strip (cell x y) x y) (is_in more x y) (in_cell x y)
first_case x y false more h = absurd (false≢true h)

more_case : (x y i j : ℤ) (b : Bool) (more : List Strip) → is_in more i j ≡ true → is_in (cond b (cell x y ∷ more) more) i j ≡ true
more_case x y i j true more h = or_right (is_in_strip (cell x y) i j) (is_in more i j) h
more_case x y i j false more h = h

row_whole : (test : ℤ → ℤ → Bool) (y : ℤ) (n : ℕ) (x i : ℤ) → test i y ≡ true → x ≤ℤ i → i <ℤ (x +ℤ pos n)
    → is_in (row test y n x) i y ≡ true
unfolding row
row_whole test y zero x i t low high = absurd (omega (arith, ints, low, high))
row_whole test y (suc n) x i t low high = by_lt_z x i
    (λ later. more_case x y i y (test x y) (row test y n (x +ℤ pos 1))
    (row_whole test y n (x +ℤ pos 1) i t (omega (arith, ints, later)) (omega (arith, ints, high))))
    (λ le. let same : i ≡ x = omega (arith, ints, le, low) in
    subst (λ k. is_in (cond (test x y) (cell x y ∷ row test y n (x +ℤ pos 1)) (row test y n (x +ℤ pos 1))) k y ≡ true) (sym same)
    (first_case x y (test x y) (row test y n (x +ℤ pos 1)) (subst (λ k. test k y ≡ true) same t)))

rows_whole : (test : ℤ → ℤ → Bool) (x : ℤ) (wide n : ℕ) (y i j : ℤ) → test i j ≡ true → x ≤ℤ i → i <ℤ (x +ℤ pos wide) → y ≤ℤ j
    → j <ℤ (y +ℤ pos n) → is_in (rows test x wide n y) i j ≡ true
unfolding rows
rows_whole test x wide zero y i j t left right low high = absurd (omega (arith, ints, low, high))
rows_whole test x wide (suc n) y i j t left right low high =
    any_either (row test y wide x) (rows test x wide n (y +ℤ pos 1)) i j
    ∙ by_lt_z y j
    (λ later. or_right (is_in (row test y wide x) i j) (is_in (rows test x wide n (y +ℤ pos 1)) i j)
    (rows_whole test x wide n (y +ℤ pos 1) i j t left right (omega (arith, ints, later)) (omega (arith, ints, high))))
    (λ le. let same : j ≡ y = omega (arith, ints, le, low) in
    or_left (is_in (row test y wide x) i j) (is_in (rows test x wide n (y +ℤ pos 1)) i j)
    (subst (λ k. is_in (row test y wide x) i k ≡ true) (sym same)
    (row_whole test y wide x i (subst (λ k. test i k ≡ true) same t) left right)))

-- ---- masks

same_test : (a b : Bool) → (a ≡ true → b ≡ true) → (b ≡ true → a ≡ true) → a ≡ b
same_test true b f g = sym (f refl)
same_test false true f g = g refl
same_test false false f g = refl

mask_by : List Draw → Formula → List Strip
mask_by draws f = rows (is_true_at draws f) (neg_ℤ (pos (2 ^ 24))) (2 ^ 25) (2 ^ 25) (neg_ℤ (pos (2 ^ 24)))

mask_whole : (draws : List Draw) (f : Formula) (x y : ℤ) → IsCellWithin (2 ^ 24) x y → is_true_at draws f x y ≡ true
    → is_in (mask_by draws f) x y ≡ true
unfolding mask_by
mask_whole draws f x y h e =
    rows_whole (is_true_at draws f) (neg_ℤ (pos (2 ^ 24))) (2 ^ 25) (2 ^ 25) (neg_ℤ (pos (2 ^ 24))) x y e h.left
    (omega (arith, ints, h.right)) h.below (omega (arith, ints, h.above))

square_cell : (x y : ℤ) → is_in_rect square x y ≡ true → IsCellWithin (2 ^ 24) x y
square_cell x y h =
    record { left = grind (arith, ints); right = grind (arith, ints); below = grind (arith, ints); above = grind (arith, ints) }

mask_is : (draws : List Draw) (f : Formula) → All (λ (d : Draw). IsShapeWithin (2 ^ 24) d.shape) draws → is_unbounded f ≡ false
    → IsMask draws f (mask_by draws f)
unfolding mask_by
mask_is draws f within bounded = record {
  cells = λ x y. same_test (is_in (mask_by draws f) x y) (is_true_at draws f x y)
      (rows_sound (is_true_at draws f) (neg_ℤ (pos (2 ^ 24))) (2 ^ 25) (2 ^ 25) (neg_ℤ (pos (2 ^ 24))) x y)
      (λ e. by_cases (is_in_rect square x y) (λ inside. mask_whole draws f x y (square_cell x y inside) e)
      (λ out. absurd (false≢true (sym (true_outside draws f x y within out ∙ bounded) ∙ e))));
}

-- Expressions that are false where no layer is present have masks.
pub some_masks : (draws : List Draw) (formulas : List Formula) → All (λ (d : Draw). IsShapeWithin (2 ^ 24) d.shape) draws
    → AllByRecursion (λ f. is_unbounded f ≡ false) formulas → HaveMasks draws formulas
some_masks draws [] within bounded = record { regions = []; are = record { each = tt } }
some_masks draws (f ∷ formulas) within bounded =
    let more = some_masks draws formulas within bounded.1 in
    record { regions = mask_by draws f ∷ more.regions; are = record { each = (mask_is draws f within bounded.0, more.are.each) } }
