-- Lists, element by element.
use Rattle.std.proofs.Common.{◌≡◌, Bool, ◌||◌, List, [], ◌∷◌, ◌++◌, map, refl, ap}
use Rattle.std.specs.List.{list_any, AllByRecursion}

-- one element more behind the others
pub all_push : {X : Type 0} (P : X → Type 0) (xs : List X) (x : X) → AllByRecursion P xs → P x → AllByRecursion P (xs ++ x ∷ [])
all_push P [] x h p = (p, tt)
all_push P (y ∷ xs) x h p = (h.0, all_push P xs x h.1 p)

pub all_weaker : {X : Type 0} (P Q : X → Type 0) (xs : List X) → ((x : X) → P x → Q x) → AllByRecursion P xs → AllByRecursion Q xs
all_weaker P Q [] f h = tt
all_weaker P Q (x ∷ xs) f h = (f x h.0, all_weaker P Q xs f h.1)

pub any_map : {X Y : Type 0} (t : Y → Bool) (f : X → Y) (xs : List X) → list_any t (map f xs) ≡ list_any (λ x. t (f x)) xs
any_map t f [] = refl
any_map t f (x ∷ xs) = ap (λ b. t (f x) || b) (any_map t f xs)
