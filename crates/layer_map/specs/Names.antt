-- What wires may be called, and names in a list.
use Rattle.std.specs.Prelude.{ℕ, Bool, true, false, List, [], ◌∷◌, length, not, ◌&&◌, ◌||◌, ◌==◌, nat_le}
use Rattle.std.specs.List.{list_all, list_any}
use Rattle.std.specs.Char.{is_ascii_digit, is_ascii_lowercase}
use Rattle.std.specs.Str.{bytes_eq}

abbrev pub is_wire_byte : ℕ → Bool
is_wire_byte b = is_ascii_lowercase b || is_ascii_digit b || b == 95

-- 1 to 16 lower-case letters, digits and `_`, and a letter first
abbrev pub is_wire_name : List ℕ → Bool
is_wire_name [] = false
is_wire_name (b ∷ bs) = is_ascii_lowercase b && nat_le (length (b ∷ bs)) 16 && list_all is_wire_byte (b ∷ bs)

abbrev pub is_among : List ℕ → List (List ℕ) → Bool
is_among name names = list_any (λ other. bytes_eq other name) names

-- no name stands twice
abbrev pub are_distinct : List (List ℕ) → Bool
are_distinct [] = true
are_distinct (name ∷ names) = not (is_among name names) && are_distinct names
