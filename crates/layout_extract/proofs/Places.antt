-- Lists by their places.
use Rattle.std.proofs.Common.{◌≡◌, ◌⊎◌, ℕ, zero, suc, ◌+◌, ◌<◌, ◌≤◌, take, inl, inr, Bool, true, false, cond, List, [], ◌∷◌, ◌++◌, length, get_or, map, Option, Some, slice_get, refl, sym, ap, ◌∙◌, subst}
use Rattle.std.specs.List.{list_any, AllZip, find}
use Rattle.std.specs.Option.{option_map}
use Rattle.std.specs.Prelude.{Result, Ok, Err, IfOk}
use Rattle.std.proofs.lemmas.Option.{slice_get_within, slice_get-get_or, get_or_from_slice_get}
use Rattle.std.proofs.lemmas.List.Folds.{Any-from_list_any, list_any-from_Any}
use Rattle.std.proofs.lemmas.Slice.Zip.{all_zipped_more}
use Rattle.std.proofs.lemmas.List.{take_more}
use Rattle.std.proofs.Math.Seq.{take_all}
use Rattle.link_classes.proofs.UniqueNumbers.{some_one, no_some}

pub one_at : {A : Type 0} (xs : List A) (j k : ℕ) (x y : A) → j ≡ k → slice_get xs j ≡ Some x → slice_get xs k ≡ Some y → x ≡ y
one_at xs j k x y same at_j at_k = some_one x y (sym at_j ∙ ap (λ n. slice_get xs n) same ∙ at_k)

-- an element that passes, and its place
pub place_of : {A : Type 0} (test : A → Bool) (xs : List A) → list_any test xs ≡ true → (k : ℕ) × (x : A) × (slice_get xs k ≡ Some x) × (test x ≡ true)
place_of test xs h = let (k, x, lt, is, pass) = Any-from_list_any test xs h in (k, x, slice_get-get_or xs k x lt ∙ ap (λ y. Some y) is, pass)

pub any_at : {A : Type 0} (test : A → Bool) (xs : List A) (k : ℕ) (x : A) → slice_get xs k ≡ Some x → test x ≡ true → list_any test xs ≡ true
any_at test xs k x at pass = list_any-from_Any test xs (k, x, slice_get_within xs k x at, get_or_from_slice_get xs k x x at, pass)

-- what stands at one place of two lists
pub zip_left : {A B : Type 0} (R : A → B → Type 0) (xs : List A) (ys : List B) (k : ℕ) (x : A) → AllZip R xs ys → slice_get xs k ≡ Some x → (y : B) × (slice_get ys k ≡ Some y) × R x y
zip_left R [] ys k a h at = no_some a at
zip_left R (x ∷ xs) [] k a h at = absurd h
zip_left R (x ∷ xs) (y ∷ ys) zero a h at = (y, refl, subst (λ z. R z y) (some_one x a at) h.0)
zip_left R (x ∷ xs) (y ∷ ys) (suc k) a h at = zip_left R xs ys k a h.1 at

pub zip_right : {A B : Type 0} (R : A → B → Type 0) (xs : List A) (ys : List B) (k : ℕ) (y : B) → AllZip R xs ys → slice_get ys k ≡ Some y → (x : A) × (slice_get xs k ≡ Some x) × R x y
zip_right R xs [] k b h at = no_some b at
zip_right R [] (y ∷ ys) k b h at = absurd h
zip_right R (x ∷ xs) (y ∷ ys) zero b h at = (x, refl, subst (λ z. R x z) (some_one y b at) h.0)
zip_right R (x ∷ xs) (y ∷ ys) (suc k) b h at = zip_right R xs ys k b h.1 at

-- a loop over the left list
pub zip_more : {A B : Type 0} (R : A → B → Type 0) (xs : List A) (ys : List B) (i : ℕ) (x : A) (y : B) → i < length xs → x ≡ get_or xs i x → AllZip R (take i xs) ys → R x y → AllZip R (take (i + 1) xs) (ys ++ y ∷ [])
zip_more R xs ys i x y lt is h one = subst (λ zs. AllZip R zs (ys ++ y ∷ [])) (sym (take_more xs i x lt)) (all_zipped_more R (take i xs) ys (get_or xs i x) y h (subst (λ z. R z y) is one))

pub zip_whole : {A B : Type 0} (R : A → B → Type 0) (xs : List A) (ys : List B) (i : ℕ) → length xs ≤ i → AllZip R (take i xs) ys → AllZip R xs ys
zip_whole R xs ys i le h = subst (λ zs. AllZip R zs ys) (take_all i xs le) h

-- the first that passes of mapped elements
find_by : {A B : Type 0} (f : A → B) (x : A) (first : Option B) (other : Option A) (b : Bool) → first ≡ option_map f other → cond b (Some (f x)) first ≡ option_map f (cond b (Some x) other)
find_by f x first other true same = refl
find_by f x first other false same = same

pub find_map : {A B : Type 0} (p : B → Bool) (f : A → B) (xs : List A) → find p (map f xs) ≡ option_map f (find (λ x. p (f x)) xs)
find_map p f [] = refl
find_map p f (x ∷ xs) = find_by f x (find p (map f xs)) (find (λ y. p (f y)) xs) (p (f x)) (find_map p f xs)

found_by : {A : Type 0} (p : A → Bool) (x y : A) (found : Option A) (b : Bool) → p y ≡ b → (found ≡ Some x → p x ≡ true) → cond b (Some y) found ≡ Some x → p x ≡ true
found_by p x y found true is ih h = subst (λ z. p z ≡ true) (some_one y x h) is
found_by p x y found false is ih h = ih h

-- what is found passes
pub found_passes : {A : Type 0} (p : A → Bool) (xs : List A) (x : A) → find p xs ≡ Some x → p x ≡ true
found_passes p [] x h = no_some x h
found_passes p (y ∷ xs) x h = found_by p x y (find p xs) (p y) refl (found_passes p xs x) h

-- ---- one element more at the end

pub push_last : {A : Type 0} (xs : List A) (x : A) → slice_get (xs ++ x ∷ []) (length xs) ≡ Some x
push_last [] x = refl
push_last (y ∷ xs) x = push_last xs x

pub push_cases : {A : Type 0} (xs : List A) (y : A) (j : ℕ) (x : A) → slice_get (xs ++ y ∷ []) j ≡ Some x → (slice_get xs j ≡ Some x) ⊎ ((j ≡ length xs) × (y ≡ x))
push_cases [] y zero x at = inr (refl, some_one y x at)
push_cases [] y (suc j) x at = no_some x at
push_cases (z ∷ xs) y zero x at = inl at
push_cases (z ∷ xs) y (suc j) x at = elim (push_cases xs y j x at) [
  | inl old ↦ inl old
  | inr (same, is) ↦ inr (ap (λ n. suc n) same, is)
]

pub ok_weaker : {T E : Type 0} (P Q : T → Type 0) → ((x : T) → P x → Q x) → (r : Result T E) → IfOk r P → IfOk r Q
ok_weaker P Q f (Ok x) h = f x h
ok_weaker P Q f (Err e) h = h
