-- How many cells a banded list of strips has.
use Rattle.std.proofs.Common.{◌≡◌, ℕ, zero, suc, ◌+◌, ◌*◌, ◌<◌, ◌≤◌, ◌^◌, Bool, true, false, cond, ◌&&◌, ◌||◌, List, [], ◌∷◌, ◌++◌, length, take, refl, sym, ap, ◌∙◌, subst, arith}
use Rattle.std.specs.Prelude.{ℤ, pos, neg_ℤ, ◌+ℤ◌, ◌≤ℤ◌, ◌<ℤ◌, sum_by, count_by, slice_index_or}
use Rattle.std.specs.List.{AllByRecursion}
use Rattle.std.proofs.lemmas.Int.{ints, by_lt_z}
use Rattle.std.proofs.lemmas.List.{take_more}
use Rattle.std.proofs.lemmas.List.Elements.{All-get_or, All-from_recursion}
use Rattle.std.proofs.lemmas.List.Folds.{list_any_more}
use Rattle.std.proofs.lemmas.List.Sums.{sum_by-cons, sum_by-le}
use Rattle.plane_geom.specs.Cells.{is_between, numbers, count_window, count_cells, count_numbers}
use Rattle.plane_geom.proofs.Counting.{count_cons, sum_by_agree, count_cells_agree, count_cells_apart, count_numbers_between, length-numbers, count_none}
use Rattle.mask_region.specs.declared.strips.Strip.{Strip}
use Rattle.mask_region.specs.Strips.{is_in_strip, is_in, IsStrip, Follows, IsBanded, Banded}
use Rattle.mask_region.proofs.Banding.{no_strip, strip_at, all_strips}

-- ---- counts of tests that never hold together

either_more : (p q : Bool) (m n : ℕ) → (p && q) ≡ false → cond (p || q) 1 0 + (m + n) ≡ (cond p 1 0 + m) + (cond q 1 0 + n)
either_more true true m n h = cc
either_more true false m n h = omega arith
either_more false true m n h = omega arith
either_more false false m n h = omega arith

count_by_either : {X : Type 0} (p q : X → Bool) (xs : List X) → ((x : X) → (p x && q x) ≡ false) → count_by (λ x. p x || q x) xs ≡ count_by p xs + count_by q xs
count_by_either p q [] never = grind arith
count_by_either p q (x ∷ xs) never =
    count_cons (λ x. p x || q x) x xs ∙ ap (λ n. cond (p x || q x) 1 0 + n) (count_by_either p q xs never)
    ∙ either_more (p x) (q x) (count_by p xs) (count_by q xs) (never x)
    ∙ (λ i. sym (count_cons p x xs) i + sym (count_cons q x xs) i)

sum_by_both : {X : Type 0} (f g : X → ℕ) (xs : List X) → sum_by (λ x. f x + g x) xs ≡ sum_by f xs + sum_by g xs
sum_by_both f g [] = grind arith
sum_by_both f g (x ∷ xs) = omega (arith, sum_by-cons (λ x. f x + g x) x xs, sum_by-cons f x xs, sum_by-cons g x xs, sum_by_both f g xs)

count_cells_either : (p q : ℤ → ℤ → Bool) → ((x y : ℤ) → (p x y && q x y) ≡ false) → count_cells (λ x y. p x y || q x y) ≡ count_cells p + count_cells q
unfolding count_cells
count_cells_either p q never =
    let line : List ℤ = numbers (neg_ℤ (pos (2 ^ 25))) (2 ^ 26 + 1) in
    sum_by_agree (λ y. count_by (λ x. p x y || q x y) line) (λ y. count_by (λ x. p x y) line + count_by (λ x. q x y) line) line
    (λ y. count_by_either (λ x. p x y) (λ x. q x y) line (λ x. never x y))
    ∙ sum_by_both (λ y. count_by (λ x. p x y) line) (λ y. count_by (λ x. q x y) line) line

-- ---- no count is over that of all cells

at_most_one : (b : Bool) → cond b 1 0 ≤ 1
at_most_one true = omega arith
at_most_one false = omega arith

pub count_by_length : {X : Type 0} (p : X → Bool) (xs : List X) → count_by p xs ≤ length xs
count_by_length p xs = omega (arith, sum_by-le (λ x. cond (p x) 1 0) 1 xs (λ k d h. at_most_one (p (slice_index_or xs k d))))

window_most : (z : ℤ) (n : ℕ) (test : ℤ → ℤ → Bool) → count_window z n test ≤ n * n
window_most z n test =
    let P : ℕ → Type 0 = λ m. sum_by (λ y. count_by (λ x. test x y) (numbers z n)) (numbers z n) ≤ m * n in
    subst P (length-numbers z n)
    (sum_by-le (λ y. count_by (λ x. test x y) (numbers z n)) n (numbers z n)
    (λ k d h. let Q : ℕ → Type 0 = λ m. count_by (λ x. test x (slice_index_or (numbers z n) k d)) (numbers z n) ≤ m in
    subst Q (length-numbers z n) (count_by_length (λ x. test x (slice_index_or (numbers z n) k d)) (numbers z n))))

pub count_cells_most : (test : ℤ → ℤ → Bool) → count_cells test < 2 ^ 53
unfolding count_cells
count_cells_most test = omega (arith, window_most (neg_ℤ (pos (2 ^ 25))) (2 ^ 26 + 1) test)

-- ---- strips have no cell in common

apart_strips : (x y : ℤ) (s t : Strip) → Follows s t → (is_in_strip s x y && is_in_strip t x y) ≡ false
apart_strips x y s t f =
    by_lt_z s.y0 t.y0
    (λ up. let apart : s.y1 ≤ℤ t.y0 = f.apart up in grind (arith, ints))
    (λ same. let right : s.x1 <ℤ t.x0 = f.right (omega (arith, ints, f.later)) in grind (arith, ints))

pub all_last : {X : Type 0} (P : X → Type 0) (xs : List X) (t : X) → AllByRecursion P (xs ++ t ∷ []) → P t
all_last P [] t h = h.0
all_last P (x ∷ xs) t h = all_last P xs t h.1

or_apart : (p q r : Bool) → (p && r) ≡ false → (q && r) ≡ false → ((p || q) && r) ≡ false
or_apart true q r h k = h
or_apart false q r h k = k

last_apart : (strips : List Strip) (t : Strip) (x y : ℤ) → IsBanded (strips ++ t ∷ []) → (is_in strips x y && is_in_strip t x y) ≡ false
last_apart [] t x y h = refl
last_apart (s ∷ strips) t x y h =
    or_apart (is_in_strip s x y) (is_in strips x y) (is_in_strip t x y) (apart_strips x y s t (all_last (Follows s) strips t h.1)) (last_apart strips t x y h.2)

pub all_take : {X : Type 0} (P : X → Type 0) (k : ℕ) (xs : List X) → AllByRecursion P xs → AllByRecursion P (take k xs)
all_take P zero xs h = tt
all_take P (suc k) [] h = tt
all_take P (suc k) (x ∷ xs) h = (h.0, all_take P k xs h.1)

banded-take : (k : ℕ) (strips : List Strip) → IsBanded strips → IsBanded (take k strips)
banded-take zero strips h = tt
banded-take (suc k) [] h = tt
banded-take (suc k) (s ∷ strips) h = (h.0, all_take (Follows s) k strips h.1, banded-take k strips h.2)

-- ---- the steps of the code

pub area_none : 0 ≡ count_cells (is_in [])
unfolding count_cells
area_none =
    let line : List ℤ = numbers (neg_ℤ (pos (2 ^ 25))) (2 ^ 26 + 1) in
    sym
    (sum_by_agree (λ y. count_by (λ (x : ℤ). false) line) (λ y. 0) line (λ y. count_none line)
    ∙ no_sum line)
  where
    no_sum : (xs : List ℤ) → sum_by (λ (y : ℤ). 0) xs ≡ 0
    no_sum [] = refl
    no_sum (x ∷ xs) = omega (arith, sum_by-cons (λ (y : ℤ). 0) x xs, no_sum xs)

pub area_one : (s : Strip) (width height : ℕ) → IsStrip s → s.x0 +ℤ pos width ≡ s.x1 → s.y0 +ℤ pos height ≡ s.y1 → width * height ≡ count_cells (is_in_strip s)
area_one s width height h ex ey =
    let wide : s.x0 +ℤ pos (count_numbers (is_between s.x0 s.x1)) ≡ s.x1 = count_numbers_between s.x0 s.x1 h.left (omega (arith, ints, h.wide)) h.right in
    let high : s.y0 +ℤ pos (count_numbers (is_between s.y0 s.y1)) ≡ s.y1 = count_numbers_between s.y0 s.y1 h.below (omega (arith, ints, h.high)) h.above in
    let w : width ≡ count_numbers (is_between s.x0 s.x1) = omega (arith, ints, wide, ex) in
    let v : height ≡ count_numbers (is_between s.y0 s.y1) = omega (arith, ints, high, ey) in
    (λ i. w i * v i) ∙ sym (count_cells_apart (is_between s.x0 s.x1) (is_between s.y0 s.y1))

pub area_more : (strips : List Strip) (k total more : ℕ) → k < length strips → Banded strips → total ≡ count_cells (is_in (take k strips)) → more ≡ count_cells (is_in_strip (strip_at strips k))
    → total + more ≡ count_cells (is_in (take (k + 1) strips))
area_more strips k total more h banded e f =
    let longer : take (k + 1) strips ≡ take k strips ++ strip_at strips k ∷ [] = take_more strips k no_strip h in
    let apart = last_apart (take k strips) (strip_at strips k) in
    (λ i. e i + f i)
    ∙ sym (count_cells_either (is_in (take k strips)) (is_in_strip (strip_at strips k)) (λ x y. apart x y (subst IsBanded longer (banded-take (k + 1) strips banded.each))))
    ∙ count_cells_agree (λ x y. is_in (take k strips) x y || is_in_strip (strip_at strips k) x y) (is_in (take (k + 1) strips))
    (λ x y. sym (list_any_more (λ s. is_in_strip s x y) strips k no_strip h))

pub strip_of_all : (strips : List Strip) (k : ℕ) → k < length strips → Banded strips → IsStrip (strip_at strips k)
strip_of_all strips k h banded = All-get_or IsStrip strips k no_strip h (All-from_recursion IsStrip strips (all_strips strips banded.each))
