-- The words of a formula's text, each with the position of its first byte.
use Rattle.std.specs.Prelude.{ℕ, ◌+◌, Bool, true, false, not, ◌||◌, ◌==◌, List, [], ◌∷◌, length, map}
use Rattle.std.specs.List.{filter, flat_map, slice_split}

-- bytes of a text, and the position of the first
pub record Word : Type 0 where
  pub at : ℕ
  pub text : List ℕ

abbrev pub is_line_feed : ℕ → Bool
is_line_feed b = b == 10

-- a space, tab, CR or LF
abbrev pub is_white : ℕ → Bool
is_white b = b == 32 || b == 9 || b == 13 || b == 10

-- Parts that stand one behind another, with one byte between two of them; the first begins at this position.
abbrev pub placed : ℕ → List (List ℕ) → List Word
placed at [] = []
placed at (part ∷ parts) = record { at = at; text = part } ∷ placed (at + length part + 1) parts

-- the parts into which such bytes cut these
abbrev pub parts_of : (ℕ → Bool) → Word → List Word
parts_of cuts part = placed part.at (slice_split cuts part.text)

-- a line that begins with `c`
abbrev pub is_comment : List ℕ → Bool
is_comment [] = false
is_comment (b ∷ bs) = b == 99

abbrev pub has_bytes : List ℕ → Bool
has_bytes [] = false
has_bytes (b ∷ bs) = true

-- what stands between white
abbrev pub words_in : Word → List Word
words_in line = filter (λ word. has_bytes word.text) (parts_of is_white line)

-- the words of lines, without those of comments
abbrev pub words_in_lines : List Word → List Word
words_in_lines lines = flat_map words_in (filter (λ line. not (is_comment line.text)) lines)

-- The words of a text, whose lines are cut at LF. Comments have none.
abbrev pub words_of : List ℕ → List Word
words_of bytes = words_in_lines (parts_of is_line_feed (record { at = 0; text = bytes }))

abbrev pub texts_of : List Word → List (List ℕ)
texts_of words = map (λ (word : Word). word.text) words
