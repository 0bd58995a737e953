-- The symbols that one calls, perhaps through others, as they are found. No promise to users cites these words.
use Rattle.std.specs.Prelude.{◌≡◌, ℕ, ◌⊎◌, Bool, true, List, ◌++◌, Option, Some, None, nat_eq, slice_get, min, ◌<◌, ◌≤◌}
use Rattle.std.specs.List.{list_any, IsDistinct}
use Rattle.cif_reader.specs.declared.file.Item.{Item}
use Rattle.cif_reader.specs.declared.file.Symbol.{Symbol}
use Rattle.cif_reader.specs.File.{has_number}
use Rattle.cif_flatten.specs.Faults.{has_call, calls, CallsThrough}

abbrev pub has : List ℕ → ℕ → Bool
has numbers n = list_any (nat_eq n) numbers

-- The numbers are those before, and the defined symbols that the items call.
pub record Grown (symbols : List Symbol) (items : List Item) (before now : List ℕ) : Type 0 where
  pub more : List ℕ
  pub kept : now ≡ before ++ more
  pub all : (n : ℕ) → has_call n items ≡ true → list_any (has_number n) symbols ≡ true → has now n ≡ true
  pub only : (n : ℕ) → has now n ≡ true → (has before n ≡ true) ⊎ ((has_call n items ≡ true) × (list_any (has_number n) symbols ≡ true))
  pub distinct : IsDistinct nat_eq before → IsDistinct nat_eq now

abbrev pub is_defined : List Symbol → ℕ → Bool
is_defined symbols n = list_any (has_number n) symbols

-- All that is found is called by the symbol through others, and what the symbol and the first of those found call is found.
pub record Searched (symbols : List Symbol) (start : ℕ) (found : List ℕ) (place : ℕ) : Type 0 where
  pub reached : (n : ℕ) → has found n ≡ true → CallsThrough symbols start n × (is_defined symbols n ≡ true)
  pub first : (n : ℕ) → calls symbols start n ≡ true → is_defined symbols n ≡ true → has found n ≡ true
  pub next : (j k n : ℕ) → j < place → slice_get found j ≡ Some k → calls symbols k n ≡ true → is_defined symbols n ≡ true → has found n ≡ true
  pub distinct : IsDistinct nat_eq found

-- The least of the symbols that calls itself, or none where none does.
abbrev pub IsLeastAmong : List Symbol → List Symbol → Option ℕ → Type 0
IsLeastAmong symbols some None = (n : ℕ) → is_defined some n ≡ true → CallsThrough symbols n n → ⊥
IsLeastAmong symbols some (Some m) = CallsThrough symbols m m × ((n : ℕ) → is_defined some n ≡ true → CallsThrough symbols n n → m ≤ n)

-- the number, or the one before where that is less
abbrev pub IsLesser : Option ℕ → ℕ → Option ℕ → Type 0
IsLesser least number None = ⊥
IsLesser None number (Some r) = r ≡ number
IsLesser (Some m) number (Some r) = r ≡ min m number
