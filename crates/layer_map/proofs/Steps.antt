-- Steps that may give nothing, and tests of words.
use Rattle.std.proofs.Common.{◌≡◌, ℕ, Bool, true, false, ◌∙◌, List, Option, Some, None, option_map, refl, sym, ap}
use Rattle.std.specs.Str.{bytes_eq}
use Rattle.std.proofs.lemmas.Slice.Eq.{bytes_eq-Decides}
use Rattle.std.proofs.lemmas.Bool.{both_ways}

pub map_map : {A B C : Type 0} (f : A → B) (g : B → C) (o : Option A) → option_map g (option_map f o) ≡ option_map (λ x. g (f x)) o
map_map f g None = refl
map_map f g (Some x) = refl

pub bytes_are : (xs ys : List ℕ) → bytes_eq xs ys ≡ true → xs ≡ ys
bytes_are xs ys h = (bytes_eq-Decides xs ys).0 h

pub are_bytes : (xs ys : List ℕ) → xs ≡ ys → bytes_eq xs ys ≡ true
are_bytes xs ys h = (bytes_eq-Decides xs ys).1 h

pub is_false : (t : Bool) → (t ≡ true → ⊥) → t ≡ false
is_false true h = absurd (h refl)
is_false false h = refl

-- Where a test tells two words apart, they are not equal.
pub apart : (test : List ℕ → Bool) (xs ys : List ℕ) → test xs ≡ true → test ys ≡ false → bytes_eq xs ys ≡ false
apart test xs ys h k = is_false (bytes_eq xs ys) (λ e. both_ways (test ys) k (ap test (sym (bytes_are xs ys e)) ∙ h))
