-- Placements lie near their layout, so that counts fit.
use Rattle.std.proofs.Common.{◌≡◌, ℕ, zero, suc, ◌+◌, ◌*◌, ◌<◌, ◌≤◌, ◌^◌, Bool, true, false, cond, ◌&&◌, ◌||◌, List, [], ◌∷◌, refl, sym, ap, ◌∙◌, subst, arith}
use Rattle.std.specs.Prelude.{ℤ, pos, neg_ℤ, ◌-ℤ◌, count_by}
use Rattle.std.specs.List.{list_any}
use Rattle.std.proofs.lemmas.Bool.{false≢true}
use Rattle.std.proofs.lemmas.Int.{ints}
use Rattle.std.proofs.lemmas.List.Sums.{sum_by-le-sum_by}
use Rattle.plane_geom.specs.Cells.{is_between, numbers, is_met, is_met_on_line, count_cells, count_numbers}
use Rattle.plane_geom.proofs.Counting.{is_met_apart, any_between, count_cells_apart, count_numbers_between}
use Rattle.mask_region.specs.declared.strips.Strip.{Strip}
use Rattle.mask_region.specs.Strips.{is_in, IsCellWithin, AreStripsWithin}
use Rattle.mask_region.proofs.Within.{strips_cell}

-- ---- a count is at most that of a set with more cells

cond_most : (p q : Bool) → (p ≡ true → q ≡ true) → cond p 1 0 ≤ cond q 1 0
cond_most true q up = subst (λ b. 1 ≤ cond b 1 0) (sym (up refl)) (omega arith)
cond_most false q up = omega arith

pub count_by_most : {X : Type 0} (p q : X → Bool) (xs : List X) → ((x : X) → p x ≡ true → q x ≡ true) → count_by p xs ≤ count_by q xs
count_by_most p q xs up = sum_by-le-sum_by (λ x. cond (p x) 1 0) (λ x. cond (q x) 1 0) xs (λ x. cond_most (p x) (q x) (up x))

pub count_cells_up : (p q : ℤ → ℤ → Bool) → ((x y : ℤ) → p x y ≡ true → q x y ≡ true) → count_cells p ≤ count_cells q
unfolding count_cells
count_cells_up p q up =
    let line : List ℤ = numbers (neg_ℤ (pos (2 ^ 25))) (2 ^ 26 + 1) in
    sum_by-le-sum_by (λ y. count_by (λ x. p x y) line) (λ y. count_by (λ x. q x y) line) line
    (λ y. count_by_most (λ x. p x y) (λ x. q x y) line (λ x. up x y))

-- the cells within a bound
abbrev pub is_near : ℕ → ℤ → Bool
is_near bound z = is_between (neg_ℤ (pos bound)) (pos bound) z

near_cell : (bound : ℕ) (x y : ℤ) → IsCellWithin bound x y → (is_near bound x && is_near bound y) ≡ true
near_cell bound x y h = grind (arith, ints, h.left, h.right, h.below, h.above)

cell_near : (bound : ℕ) (x y : ℤ) → (is_near bound x && is_near bound y) ≡ true → IsCellWithin bound x y
cell_near bound x y h = record { left = grind (arith, ints); right = grind (arith, ints); below = grind (arith, ints); above = grind (arith, ints) }

near_line : (bound : ℕ) → bound ≤ 2 ^ 25 → count_numbers (is_near bound) ≡ bound + bound
near_line bound small = omega (arith, ints, count_numbers_between (neg_ℤ (pos bound)) (pos bound) (omega (arith, ints)) (omega (arith, ints)) (omega (arith, ints)))

pub count_within : (bound : ℕ) (p : ℤ → ℤ → Bool) → bound ≤ 2 ^ 25 → ((x y : ℤ) → p x y ≡ true → IsCellWithin bound x y) → count_cells p ≤ (bound + bound) * (bound + bound)
count_within bound p small within =
    subst (λ n. count_cells p ≤ n) (count_cells_apart (is_near bound) (is_near bound) ∙ (λ i. near_line bound small i * near_line bound small i))
    (count_cells_up p (λ x y. is_near bound x && is_near bound y) (λ x y h. near_cell bound x y (within x y h)))

-- ---- what meets a region lies near it

either_up : (p q r s : Bool) → (p ≡ true → r ≡ true) → (q ≡ true → s ≡ true) → (p || q) ≡ true → (r || s) ≡ true
either_up true q r s f g h = ap (λ b. b || s) (f refl)
either_up false true true s f g h = refl
either_up false true false s f g h = g refl
either_up false false r s f g h = absurd (false≢true h)

any_up : {X : Type 0} (p q : X → Bool) (xs : List X) → ((x : X) → p x ≡ true → q x ≡ true) → list_any p xs ≡ true → list_any q xs ≡ true
any_up p q [] up h = h
any_up p q (x ∷ xs) up h = either_up (p x) (list_any p xs) (q x) (list_any q xs) (up x) (any_up p q xs up) h

met_up : (side : ℕ) (p q : ℤ → ℤ → Bool) (x y : ℤ) → ((i j : ℤ) → p i j ≡ true → q i j ≡ true) → is_met side p x y ≡ true → is_met side q x y ≡ true
met_up side p q x y up =
    any_up (λ j. list_any (λ i. p i j) (numbers x side)) (λ j. list_any (λ i. q i j) (numbers x side)) (numbers y side)
    (λ j. any_up (λ i. p i j) (λ i. q i j) (numbers x side) (λ i. up i j))

-- a span of numbers near 0 is near it
line_near : (bound n : ℕ) (z : ℤ) → 0 < bound → is_met_on_line (suc n) (is_near bound) z ≡ is_between (neg_ℤ (pos bound) -ℤ pos n) (pos bound) z
line_near bound n z some = any_between n (neg_ℤ (pos bound)) (pos bound) z (omega (arith, ints, some))

wider : (bound n more : ℕ) (x y : ℤ) → n ≤ more → (is_between (neg_ℤ (pos bound) -ℤ pos n) (pos bound) x && is_between (neg_ℤ (pos bound) -ℤ pos n) (pos bound) y) ≡ true → IsCellWithin (bound + more) x y
wider bound n more x y le h = record { left = grind (arith, ints); right = grind (arith, ints); below = grind (arith, ints); above = grind (arith, ints) }

pub met_near : (bound more side : ℕ) (strips : List Strip) (x y : ℤ) → 0 < bound → 0 < side → side ≤ more → AreStripsWithin bound strips → is_met side (is_in strips) x y ≡ true → IsCellWithin (bound + more) x y
met_near bound more zero strips x y low some small within h = absurd (omega (arith, some))
met_near bound more (suc n) strips x y low some small within h =
    let near = met_up (suc n) (is_in strips) (λ i j. is_near bound i && is_near bound j) x y (λ i j e. near_cell bound i j (strips_cell bound strips i j within e)) h in
    let apart = is_met_apart (suc n) (is_near bound) (is_near bound) x y in
    wider bound n more x y (omega (arith, small)) ((λ i. sym (line_near bound n x low) i && sym (line_near bound n y low) i) ∙ sym apart ∙ near)
