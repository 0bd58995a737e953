-- Ranks of symbols, which show that some do not call themselves. No promise to users cites these words.
use Rattle.std.specs.Prelude.{◌≡◌, ℕ, ◌<◌, ◌≤◌, true, List, Option, Some, None, nat_eq}
use Rattle.indexmap.specs.IndexMap.{IndexMap, get}
use Rattle.cif_reader.specs.declared.file.Item.{Item}
use Rattle.cif_reader.specs.declared.file.Symbol.{Symbol}
use Rattle.cif_flatten.specs.Faults.{has_call, calls}
use Rattle.cif_flatten.specs.Reaching.{is_defined}

abbrev pub rank_in : Option ℕ → ℕ
rank_in None = 0
rank_in (Some rank) = rank

-- the rank of the symbol, and 0 where it has none
abbrev pub rank_of : {S : Type 0} → IndexMap ℕ ℕ S → ℕ → ℕ
rank_of ranks number = rank_in (get nat_eq ranks number)

-- No symbol that the items call has a greater rank.
abbrev pub IsHeight : (ℕ → ℕ) → List Item → ℕ → Type 0
IsHeight rank items height = (n : ℕ) → has_call n items ≡ true → rank n ≤ height

-- None of the symbols calls one of greater rank.
abbrev pub NeverRises : List Symbol → (ℕ → ℕ) → List Symbol → Type 0
NeverRises symbols rank some = (a b : ℕ) → is_defined some a ≡ true → calls symbols a b ≡ true → rank b ≤ rank a

-- the number is less, where there is another
abbrev pub IsBefore : ℕ → Option ℕ → Type 0
IsBefore number None = Unit {0}
IsBefore number (Some other) = number < other

-- Each of the symbols that stands before the least calls none but of lesser rank.
abbrev pub FallsBefore : List Symbol → (ℕ → ℕ) → List Symbol → Option ℕ → Type 0
FallsBefore symbols rank some least = (a b : ℕ) → is_defined some a ≡ true → IsBefore a least → calls symbols a b ≡ true → rank b < rank a
