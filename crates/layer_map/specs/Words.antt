-- The words of a line.
use Rattle.std.specs.Prelude.{ℕ, Bool, true, false, List, [], ◌∷◌, not, ◌&&◌, ◌||◌, ◌==◌, if◌then◌else◌, codes}
use Rattle.std.specs.Str.{bytes_eq}
use Rattle.layer_map.specs.Lines.{onto_first}

-- a space or a tab
abbrev pub is_blank : ℕ → Bool
is_blank b = b == 32 || b == 9

-- one of `+ * ! ( ) :`
abbrev pub is_sign : ℕ → Bool
is_sign b = b == 43 || b == 42 || b == 33 || b == 40 || b == 41 || b == 58

-- A line is cut into words with signs, where each sign is a word by itself, or at its blanks alone.
-- a byte that is a word by itself
abbrev pub is_single : Bool → ℕ → Bool
is_single signs b = signs && is_sign b

-- a byte that is part of a word with those beside it
abbrev pub is_plain : Bool → ℕ → Bool
is_plain signs b = not (is_blank b || is_single signs b)

abbrev pub begins_plain : Bool → List ℕ → Bool
begins_plain signs [] = false
begins_plain signs (b ∷ bs) = is_plain signs b

-- the words, with or without signs; blanks are between them
abbrev pub words_of : Bool → List ℕ → List (List ℕ)
words_of signs [] = []
words_of signs (b ∷ bs) = if is_blank b then words_of signs bs else if is_plain signs b && begins_plain signs bs then onto_first b (words_of signs bs) else (b ∷ []) ∷ words_of signs bs

abbrev pub is_comment : List (List ℕ) → Bool
is_comment [] = true
is_comment ([] ∷ words) = false
is_comment ((b ∷ bs) ∷ words) = b == 35

-- a line that says nothing: it has only blanks, or the first other byte is `#`
abbrev pub is_skipped : List ℕ → Bool
is_skipped line = is_comment (words_of false line)

abbrev pub begins_supply : List (List ℕ) → Bool
begins_supply [] = false
begins_supply (word ∷ words) = bytes_eq word (codes "high") || bytes_eq word (codes "low")

-- a line whose first word, cut at blanks alone, is `high` or `low`
abbrev pub is_supply_line : List ℕ → Bool
is_supply_line line = begins_supply (words_of false line)
