-- Cases of tests, of numbers and of lists.
use Rattle.std.proofs.Common.{◌≡◌, ◌⊎◌, inl, inr, ℕ, ◌<◌, ◌≤◌, Bool, true, false, ◌||◌, List, [], ◌∷◌, refl, sym, ◌∙◌, arith}
use Rattle.std.specs.Prelude.{nat_lt, min, IsTrue, ◌↔◌}
use Rattle.std.proofs.lemmas.Bool.{false≢true}
use Rattle.std.proofs.lemmas.Bool.Decides.{nat_tests}

pub or_case : {P : Type 0} (a b : Bool) → (a || b) ≡ true → (a ≡ true → P) → (b ≡ true → P) → P
or_case true b h f g = f refl
or_case false b h f g = g h

pub not_true : {A : Type 0} (b : Bool) → b ≡ false → IsTrue b ↔ A → A → ⊥
not_true b e h a = false≢true (sym e ∙ h.1 a)

pub cons_not_nil : {X : Type 0} (x : X) (xs : List X) → x ∷ xs ≡ [] → ⊥
cons_not_nil x xs h = cc

not_less_case : (m n : ℕ) (t : Bool) → nat_lt m n ≡ t → (m < n → ⊥) → n ≤ m
not_less_case m n true e h = absurd (h (grind (arith, nat_tests)))
not_less_case m n false e h = grind (arith, nat_tests)

pub not_less : (m n : ℕ) → (m < n → ⊥) → n ≤ m
not_less m n h = not_less_case m n (nat_lt m n) refl h

min_less : (l n r : ℕ) (t : Bool) → nat_lt l n ≡ t → r ≡ min l n → (r ≡ l) ⊎ (r ≡ n)
min_less l n r true e is = inl (grind (arith, nat_tests))
min_less l n r false e is = inr (grind (arith, nat_tests))

pub min_case : (l n r : ℕ) → r ≡ min l n → (r ≡ l) ⊎ (r ≡ n)
min_case l n r is = min_less l n r (nat_lt l n) refl is
