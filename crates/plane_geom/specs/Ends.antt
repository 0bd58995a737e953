-- Ends: the places on a line where a set of numbers begins and stops.
use Rattle.std.specs.Prelude.{ℕ, ◌%◌, ◌==◌, ℤ, Bool, false, cond, not, int_lt, List, [], ◌∷◌}

abbrev pub is_odd : ℕ → Bool
is_odd n = n % 2 == 1

-- Whether z is in the set: an odd number of ends lie at or before it.
abbrev pub flips : List ℤ → ℤ → Bool
flips [] z = false
flips (t ∷ ts) z = cond (int_lt z t) (flips ts z) (not (flips ts z))
