-- Literals: compared, looked for in a list, and their places in a table.
use Rattle.std.proofs.Common.{◌≡◌, ◌≢◌, ℕ, ◌+◌, ◌*◌, ◌<◌, ◌≤◌, ℤ, pos, negsuc, nat_abs, Bool, true, false, List, get_or, refl, ap, subst, arith}
use Rattle.std.specs.List.{All, Contains}
use Rattle.std.specs.Ordering.{int_eq}
use Rattle.std.proofs.lemmas.Int.{ints}
use Rattle.std.proofs.lemmas.Bool.Decides.{nat_tests}
use Rattle.std.proofs.lemmas.List.Folds.{Any-from_list_any, list_any_at}
use Rattle.clause_base.specs.Literals.{is_in, code_of}

-- ---- tests

pub by_test : {P : Type 0} (b : Bool) → (b ≡ true → P) → (b ≡ false → P) → P
by_test true t f = t refl
by_test false t f = f refl

pub no_both : {P : Type 0} {b : Bool} → b ≡ true → b ≡ false → P
no_both t f = let both : ⊥ = cc in absurd both

-- ---- two literals

pub same_lit : (a b : ℤ) → int_eq a b ≡ true → a ≡ b
same_lit a b is = grind (arith, ints, nat_tests, is)

pub same_test : (a b : ℤ) → a ≡ b → int_eq a b ≡ true
same_test a b same = grind (arith, ints, nat_tests, same)

pub differ : (a b : ℤ) → int_eq a b ≡ false → a ≢ b
differ a b is e = grind (arith, ints, nat_tests, is, e)

pub by_lit : {P : Type 0} (a b : ℤ) → (a ≡ b → P) → (a ≢ b → P) → P
by_lit a b same other = by_test (int_eq a b) (λ is. same (same_lit a b is)) (λ is. other (differ a b is))

-- ---- literals of a list

pub contains_in : (xs : List ℤ) (l : ℤ) → Contains xs l → is_in xs l ≡ true
contains_in xs l (k, lt, at) = list_any_at (λ (m : ℤ). int_eq m l) xs k l lt (same_test (get_or xs k l) l at)

pub in_contains : (xs : List ℤ) (l : ℤ) → is_in xs l ≡ true → Contains xs l
in_contains xs l is = let (k, m, lt, at, pass) = Any-from_list_any (λ (m : ℤ). int_eq m l) xs is in (k, lt, found m k at pass) where
  found : (m : ℤ) (k : ℕ) → get_or xs k m ≡ m → int_eq m l ≡ true → get_or xs k l ≡ l
  found m k at pass = subst (λ z. get_or xs k z ≡ z) (same_lit m l pass) at

pub lacks : (xs : List ℤ) (l : ℤ) → is_in xs l ≡ false → Contains xs l → ⊥
lacks xs l none has = no_both (contains_in xs l has) none

-- a literal is in the list, or each one of the list is another
pub by_place : {P : Type 0} (l : ℤ) (xs : List ℤ) → (Contains xs l → P) → (All (λ m. m ≢ l) xs → P) → P
by_place l xs inside outside = by_test (is_in xs l)
    (λ is. inside (in_contains xs l is))
    (λ is. outside (λ k d lt same. no_both (list_any_at (λ (m : ℤ). int_eq m l) xs k d lt (same_test (get_or xs k d) l same)) is))

-- ---- places in a table

pub one_code : (a b : ℤ) → code_of a ≡ code_of b → a ≡ b
one_code (pos m) (pos n) same = ap pos (omega (arith, same))
one_code (pos m) (negsuc n) same = absurd (omega (arith, same))
one_code (negsuc m) (pos n) same = absurd (omega (arith, same))
one_code (negsuc m) (negsuc n) same = ap negsuc (omega (arith, same))

-- a table with two places a variable has one for each literal
pub coded : (vars : ℕ) (l : ℤ) → nat_abs l ≤ vars → code_of l < vars * 2 + 2
coded vars (pos n) small = omega (arith, small)
coded vars (negsuc n) small = omega (arith, small)
