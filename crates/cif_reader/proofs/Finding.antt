-- The first of all that lists hold.
use Rattle.std.proofs.Math.Seq.{drop-cons}
use Rattle.std.proofs.lemmas.Bool.{or_parts}
use Rattle.std.proofs.lemmas.List.{drop_all}
use Rattle.std.proofs.Common.{◌≡◌, ℕ, suc, ◌+◌, ◌<◌, ◌≤◌, length, get_or, drop, map, add-one, Bool, true, false, cond, List, [], ◌∷◌, ◌++◌, ◌||◌, refl, sym, ap, ◌∙◌}
use Rattle.std.specs.Prelude.{Option, Some, None, find, flat_map}
use Rattle.std.specs.List.{list_any}
use Rattle.std.proofs.lemmas.List.Folds.{find-append}
use Rattle.std.specs.Option.{option_or}

pub find_flat : {X Y : Type 0} (t : Y → Bool) (f : X → List Y) (x : X) (xs : List X) → find t (flat_map f (x ∷ xs)) ≡ option_or (find t (f x)) (find t (flat_map f xs))
find_flat t f x xs = find-append t (f x) (flat_map f xs)

none_case : {X : Type 0} (x : X) (t : Bool) (r : Option X) (rest : Bool) → cond t (Some x) r ≡ None → (r ≡ None → rest ≡ false) → (t || rest) ≡ false
none_case x true r rest h f = cc
none_case x false r rest h f = f h

-- Where none is found none passes.
pub find_none : {X : Type 0} (t : X → Bool) (xs : List X) → find t xs ≡ None → list_any t xs ≡ false
find_none t [] h = refl
find_none t (x ∷ xs) h = none_case x (t x) (find t xs) (list_any t xs) h (find_none t xs)

pub find_step : {X Y : Type 0} (t : Y → Bool) (f : X → List Y) (xs : List X) (i : ℕ) (d : X) → i < length xs → find t (flat_map f (drop i xs)) ≡ option_or (find t (f (get_or xs i d))) (find t (flat_map f (drop (i + 1) xs)))
find_step t f xs i d h = ap (λ r. find t (flat_map f r)) (drop-cons xs i d h) ∙ find-append t (f (get_or xs i d)) (flat_map f (drop (suc i) xs)) ∙ ap (λ n. option_or (find t (f (get_or xs i d))) (find t (flat_map f (drop n xs)))) (sym (add-one i))

some_or : {Y : Type 0} (a b r : Option Y) (y : Y) → a ≡ Some y → r ≡ option_or a b → r ≡ Some y
some_or a b r y h e = e ∙ ap (λ u. option_or u b) h

none_or : {Y : Type 0} (a b r : Option Y) → a ≡ None → r ≡ option_or a b → r ≡ b
none_or a b r h e = e ∙ ap (λ u. option_or u b) h

pub found_here : {X Y : Type 0} (t : Y → Bool) (f : X → List Y) (xs : List X) (i : ℕ) (d : X) (y : Y) (r : Option Y) → i < length xs → r ≡ find t (flat_map f (drop i xs)) → find t (f (get_or xs i d)) ≡ Some y → Some y ≡ r
found_here t f xs i d y r h e here = sym (some_or _ _ r y here (e ∙ find_step t f xs i d h))

pub not_here : {X Y : Type 0} (t : Y → Bool) (f : X → List Y) (xs : List X) (i : ℕ) (d : X) (r : Option Y) → i < length xs → r ≡ find t (flat_map f (drop i xs)) → find t (f (get_or xs i d)) ≡ None → r ≡ find t (flat_map f (drop (i + 1) xs))
not_here t f xs i d r h e here = none_or _ _ r here (e ∙ find_step t f xs i d h)

pub found_nowhere : {X Y : Type 0} (t : Y → Bool) (f : X → List Y) (xs : List X) (i : ℕ) (r : Option Y) → length xs ≤ i → r ≡ find t (flat_map f (drop i xs)) → None ≡ r
found_nowhere t f xs i r h e = sym (e ∙ ap (λ u. find t (flat_map f u)) (drop_all i xs h))

pub flat_map_map : {X Y Z : Type 0} (g : Y → List Z) (h : X → Y) (xs : List X) → flat_map g (map h xs) ≡ flat_map (λ x. g (h x)) xs
flat_map_map g h [] = refl
flat_map_map g h (x ∷ xs) = ap (λ r. g (h x) ++ r) (flat_map_map g h xs)

-- the numbers behind the first one
pub rest_none : {X : Type 0} (t : X → Bool) (x : X) (xs : List X) → find t (x ∷ xs) ≡ None → list_any t xs ≡ false
rest_none t x xs h = (or_parts (t x) (list_any t xs) (find_none t (x ∷ xs) h)).1
