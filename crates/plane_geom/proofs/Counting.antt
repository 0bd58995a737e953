-- Windows of whole numbers, and how many of their cells pass a test.
use Rattle.std.proofs.Common.{◌≡◌, ℕ, zero, suc, ◌+◌, ◌*◌, ◌^◌, Bool, true, false, cond, ◌&&◌, List, [], ◌∷◌, length, refl, sym, ap, ◌∙◌, arith}
use Rattle.std.specs.Prelude.{ℤ, pos, neg_ℤ, ◌+ℤ◌, ◌-ℤ◌, ◌≤ℤ◌, ◌<ℤ◌, sum_by, count_by}
use Rattle.std.specs.List.{list_any}
use Rattle.std.proofs.lemmas.Int.{ints, by_lt_z}
use Rattle.std.proofs.lemmas.List.Sums.{sum_by-cons}
use Rattle.plane_geom.specs.Cells.{is_between, numbers, is_met, is_met_on_line, count_window, count_cells, count_numbers}

-- ---- tests that agree

pub list_any_agree : {X : Type 0} (p q : X → Bool) (xs : List X) → ((x : X) → p x ≡ q x) → list_any p xs ≡ list_any q xs
list_any_agree p q xs same = ap (λ r. list_any r xs) (λ i x. same x i)

pub count_by_agree : {X : Type 0} (p q : X → Bool) (xs : List X) → ((x : X) → p x ≡ q x) → count_by p xs ≡ count_by q xs
count_by_agree p q xs same = ap (λ r. count_by r xs) (λ i x. same x i)

pub sum_by_agree : {X : Type 0} (f g : X → ℕ) (xs : List X) → ((x : X) → f x ≡ g x) → sum_by f xs ≡ sum_by g xs
sum_by_agree f g xs same = ap (λ r. sum_by r xs) (λ i x. same x i)

pub is_met_agree : (side : ℕ) (p q : ℤ → ℤ → Bool) (x y : ℤ) → ((i j : ℤ) → p i j ≡ q i j) → is_met side p x y ≡ is_met side q x y
is_met_agree side p q x y same = ap (λ t. is_met side t x y) (λ k i j. same i j k)

pub count_cells_agree : (p q : ℤ → ℤ → Bool) → ((x y : ℤ) → p x y ≡ q x y) → count_cells p ≡ count_cells q
count_cells_agree p q same = ap count_cells (λ i x y. same x y i)

-- ---- counts

pub count_cons : {X : Type 0} (p : X → Bool) (x : X) (xs : List X) → count_by p (x ∷ xs) ≡ cond (p x) 1 0 + count_by p xs
count_cons p x xs = sum_by-cons (λ x. cond (p x) 1 0) x xs

pub count_none : {X : Type 0} (xs : List X) → count_by (λ (x : X). false) xs ≡ 0
count_none [] = refl
count_none (x ∷ xs) = count_cons (λ x. false) x xs ∙ omega (arith, count_none xs)

-- a factor that the element does not change
pub any_and : {X : Type 0} (b : Bool) (p : X → Bool) (xs : List X) → list_any (λ x. p x && b) xs ≡ (list_any p xs && b)
any_and b p [] = refl
any_and true p (x ∷ xs) = grind (arith, any_and true p xs)
any_and false p (x ∷ xs) = grind (arith, any_and false p xs)

pub any_and_left : {X : Type 0} (b : Bool) (p : X → Bool) (xs : List X) → list_any (λ x. b && p x) xs ≡ (b && list_any p xs)
any_and_left b p [] = grind arith
any_and_left true p (x ∷ xs) = refl
any_and_left false p (x ∷ xs) = any_and_left false p xs

-- A square meets a product of two sets of numbers where each of its sides meets one.
pub is_met_apart : (side : ℕ) (f g : ℤ → Bool) (x y : ℤ) → is_met side (λ i j. f i && g j) x y ≡ (is_met_on_line side f x && is_met_on_line side g y)
is_met_apart side f g x y =
    list_any_agree (λ j. list_any (λ i. f i && g j) (numbers x side)) (λ j. list_any f (numbers x side) && g j) (numbers y side) (λ j. any_and (g j) f (numbers x side))
    ∙ any_and_left (list_any f (numbers x side)) g (numbers y side)

-- the cells of a product
pub count_by_and : {X : Type 0} (b : Bool) (p : X → Bool) (xs : List X) → count_by (λ x. p x && b) xs ≡ cond b (count_by p xs) 0
count_by_and true p xs = count_by_agree (λ x. p x && true) p xs (λ x. grind arith)
count_by_and false p xs = count_by_agree (λ x. p x && false) (λ x. false) xs (λ x. grind arith) ∙ count_none xs

one_more : (n : ℕ) (b : Bool) (k : ℕ) → cond b n 0 + n * k ≡ n * (cond b 1 0 + k)
one_more n true k = omega arith
one_more n false k = omega arith

pub sum_by_cond : {X : Type 0} (n : ℕ) (p : X → Bool) (xs : List X) → sum_by (λ x. cond (p x) n 0) xs ≡ n * count_by p xs
sum_by_cond n p [] = grind arith
sum_by_cond n p (x ∷ xs) =
    sum_by-cons (λ x. cond (p x) n 0) x xs ∙ ap (λ k. cond (p x) n 0 + k) (sum_by_cond n p xs)
    ∙ one_more n (p x) (count_by p xs) ∙ ap (λ k. n * k) (sym (count_cons p x xs))

pub count_window_apart : (z : ℤ) (n : ℕ) (f g : ℤ → Bool) → count_window z n (λ x y. f x && g y) ≡ count_by f (numbers z n) * count_by g (numbers z n)
count_window_apart z n f g =
    sum_by_agree (λ y. count_by (λ x. f x && g y) (numbers z n)) (λ y. cond (g y) (count_by f (numbers z n)) 0) (numbers z n) (λ y. count_by_and (g y) f (numbers z n))
    ∙ sum_by_cond (count_by f (numbers z n)) g (numbers z n)

pub count_cells_apart : (f g : ℤ → Bool) → count_cells (λ x y. f x && g y) ≡ count_numbers f * count_numbers g
unfolding count_cells count_numbers
count_cells_apart f g = count_window_apart (neg_ℤ (pos (2 ^ 25))) (2 ^ 26 + 1) f g

-- ---- spans

-- A span of n + 1 numbers meets another one where it begins at most n before it.
pub any_between : (n : ℕ) (low high x : ℤ) → low <ℤ high → is_met_on_line (suc n) (is_between low high) x ≡ is_between (low -ℤ pos n) high x
unfolding numbers
any_between zero low high x some = grind (arith, ints)
any_between (suc n) low high x some = grind (arith, ints, any_between n low high (x +ℤ pos 1) some)

pub length-numbers : (z : ℤ) (n : ℕ) → length (numbers z n) ≡ n
unfolding numbers
length-numbers z zero = refl
length-numbers z (suc n) = ap suc (length-numbers (z +ℤ pos 1) n)

-- No number of a window that ends before a span is in it.
pub count_before : (low high z : ℤ) (n : ℕ) → (z +ℤ pos n) ≤ℤ low → count_by (is_between low high) (numbers z n) ≡ 0
unfolding numbers
count_before low high z zero a = refl
count_before low high z (suc n) a = count_cons (is_between low high) z (numbers (z +ℤ pos 1) n) ∙ grind (arith, ints, count_before low high (z +ℤ pos 1) n (omega (arith, ints)))

-- nor of one that begins behind it
pub count_behind : (low high z : ℤ) (n : ℕ) → high ≤ℤ z → count_by (is_between low high) (numbers z n) ≡ 0
unfolding numbers
count_behind low high z zero a = refl
count_behind low high z (suc n) a = count_cons (is_between low high) z (numbers (z +ℤ pos 1) n) ∙ grind (arith, ints, count_behind low high (z +ℤ pos 1) n (omega (arith, ints)))

inside_more : (low high z : ℤ) (n m : ℕ) → low ≤ℤ z → z <ℤ high → m ≡ cond (is_between low high z) 1 0 + n → (z +ℤ pos 1) +ℤ pos n ≡ high → z +ℤ pos m ≡ high
inside_more low high z n m a b e h = grind (arith, ints)

inside_end : (z high : ℤ) (m : ℕ) → z ≤ℤ high → high ≤ℤ z → m ≡ 0 → z +ℤ pos m ≡ high
inside_end z high m a b e = omega (arith, ints)

same_end : (low z high : ℤ) (m : ℕ) → z ≤ℤ low → low ≤ℤ z → z +ℤ pos m ≡ high → low +ℤ pos m ≡ high
same_end low z high m a b e = omega (arith, ints)

-- The numbers of a window that begins in a span, up to the span's end.
pub count_inside : (low high z : ℤ) (n : ℕ) → low ≤ℤ z → z ≤ℤ high → high ≤ℤ (z +ℤ pos n) → z +ℤ pos (count_by (is_between low high) (numbers z n)) ≡ high
unfolding numbers
count_inside low high z zero a b c = omega (arith, ints)
count_inside low high z (suc n) a b c =
    by_lt_z z high
    (λ more. inside_more low high z (count_by (is_between low high) (numbers (z +ℤ pos 1) n)) _ a more
    (count_cons (is_between low high) z (numbers (z +ℤ pos 1) n)) (count_inside low high (z +ℤ pos 1) n (omega (arith, ints)) (omega (arith, ints)) (omega (arith, ints))))
    (λ end. inside_end z high _ b end (count_behind low high z (suc n) end))

-- how many numbers of a window are between two of its numbers
pub count_between : (low high z : ℤ) (n : ℕ) → z ≤ℤ low → low ≤ℤ high → high ≤ℤ (z +ℤ pos n) → low +ℤ pos (count_by (is_between low high) (numbers z n)) ≡ high
unfolding numbers
count_between low high z zero a b c = omega (arith, ints)
count_between low high z (suc n) a b c =
    by_lt_z z low
    (λ before. let ih = count_between low high (z +ℤ pos 1) n (omega (arith, ints)) b (omega (arith, ints)) in grind (arith, ints, count_cons (is_between low high) z (numbers (z +ℤ pos 1) n), ih))
    (λ at. same_end low z high _ a at (count_inside low high z (suc n) at (omega (arith, ints)) c))

-- The same in the window of all placements.
pub count_numbers_between : (low high : ℤ) → neg_ℤ (pos (2 ^ 25)) ≤ℤ low → low ≤ℤ high → high ≤ℤ pos (2 ^ 25) → low +ℤ pos (count_numbers (is_between low high)) ≡ high
unfolding count_numbers
count_numbers_between low high a b c = count_between low high (neg_ℤ (pos (2 ^ 25))) (2 ^ 26 + 1) a b (omega (arith, ints))
