-- The text of a clause in a proof.
use Rattle.std.specs.Prelude.{ℤ, ℕ, List, [], ◌∷◌, ◌++◌, flat_map, codes}
use Rattle.std.specs.List.{concat}
use Rattle.std.specs.Fmt.{signed_decimal}

-- a literal and a space
unfoldable pub literal_text : ℤ → List ℕ
literal_text lit = concat (signed_decimal lit ∷ codes " " ∷ [])

-- the literals, each followed by a space, and 0
abbrev pub clause_text : List ℤ → List ℕ
clause_text clause = flat_map literal_text clause ++ codes "0"

-- the line `f` of a clause that is given
unfoldable pub given_text : List ℤ → List ℕ
given_text clause = concat (codes "f " ∷ clause_text clause ∷ codes "\n" ∷ [])
