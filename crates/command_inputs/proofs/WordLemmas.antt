-- Lists of words, item by item.
use Rattle.std.proofs.Common.{◌≡◌, ◌<◌, ◌≤◌, List, [], ◌∷◌, length, get_or, refl, arith}

-- a list of length 2 is its two items
pub two_items : {X : Type 0} (xs : List X) (a b : X) → 2 ≤ length xs → length xs < 3 → a ≡ get_or xs 0 a → b ≡ get_or xs 1 b → xs ≡ a ∷ b ∷ []
two_items [] a b many few e0 e1 = absurd (omega arith)
two_items (x ∷ []) a b many few e0 e1 = absurd (omega arith)
two_items (x ∷ y ∷ []) a b many few e0 e1 = rw (e0, e1) refl
two_items (x ∷ y ∷ z ∷ more) a b many few e0 e1 = absurd (omega arith)

-- a list of length 3 is its three items
pub three_items : {X : Type 0} (xs : List X) (a b c : X) → 3 ≤ length xs → length xs < 4 → a ≡ get_or xs 0 a → b ≡ get_or xs 1 b → c ≡ get_or xs 2 c → xs ≡ a ∷ b ∷ c ∷ []
three_items [] a b c many few e0 e1 e2 = absurd (omega arith)
three_items (x ∷ []) a b c many few e0 e1 e2 = absurd (omega arith)
three_items (x ∷ y ∷ []) a b c many few e0 e1 e2 = absurd (omega arith)
three_items (x ∷ y ∷ z ∷ []) a b c many few e0 e1 e2 = rw (e0, e1, e2) refl
three_items (x ∷ y ∷ z ∷ w ∷ more) a b c many few e0 e1 e2 = absurd (omega arith)
