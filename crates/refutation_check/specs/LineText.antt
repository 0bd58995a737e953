-- The text of a derived line.
use Rattle.std.specs.Prelude.{ℕ, ℤ, List, [], ◌∷◌, ◌++◌, flat_map, decimal, codes}
use Rattle.std.specs.List.{concat}
use Rattle.clause_base.specs.ClauseText.{clause_text}

-- a hint and a space
unfoldable pub hint_text : ℕ → List ℕ
hint_text hint = concat (decimal hint ∷ codes " " ∷ [])

-- the hints, each followed by a space, and 0
abbrev pub hints_text : List ℕ → List ℕ
hints_text hints = flat_map hint_text hints ++ codes "0"

-- the line `d` of a derived clause: its number, its literals and its hints
unfoldable pub derived_text : ℕ → List ℤ → List ℕ → List ℕ
derived_text number clause hints =
    concat (codes "d " ∷ decimal number ∷ codes " " ∷ clause_text clause ∷ codes " " ∷ hints_text hints ∷ codes "\n" ∷ [])
