-- Words of a text, and how they follow one another.
use Rattle.std.specs.Prelude.{◌≡◌, ℕ, ◌+◌, ◌<◌, Bool, true, not, ◌||◌, ◌==◌, List, [], ◌∷◌, ◌++◌, length, min, drop}
use Rattle.std.specs.List.{list_all, prefix_len}
use Rattle.std.specs.Char.{is_ascii_digit, is_ascii_uppercase}
use Rattle.std.specs.Str.Parse.{AllDigits, digits_value}
use Rattle.cif_grammar.specs.declared.spelled.Number.{Number}

-- A word is told by which bytes spell it where it begins behind so many bytes of the text.
abbrev pub Word : Type 1
Word = ℕ → List ℕ → Type 0

-- one word, and the next one behind it
pub record Then (A B : ℕ → List ℕ → Type 0) (at : ℕ) (bytes : List ℕ) : Type 0 where
  pub front : List ℕ
  pub back : List ℕ
  pub first : A at front
  pub second : B (at + length front) back
  pub whole : bytes ≡ front ++ back

-- a word that the bytes begin with, and what stands behind it
pub record Takes (word : ℕ → List ℕ → Type 0) (at : ℕ) (bytes rest : List ℕ) : Type 0 where
  pub front : List ℕ
  pub spelled : word at front
  pub whole : bytes ≡ front ++ rest

infixr 3 ◌⋅◌
abbrev pub ◌⋅◌ : Word → Word → Word
a ⋅ b = Then a b

-- these bytes
abbrev pub Literally : List ℕ → Word
Literally text at bytes = bytes ≡ text

abbrev pub Nothing : Word
Nothing = Literally []

-- one byte that passes a test
pub record One (test : ℕ → Bool) (at : ℕ) (bytes : List ℕ) : Type 0 where
  pub byte : ℕ
  pub passes : test byte ≡ true
  pub whole : bytes ≡ byte ∷ []

-- any number of bytes that pass a test
abbrev pub Run : (ℕ → Bool) → Word
Run test at bytes = list_all test bytes ≡ true

-- A blank is any byte other than a digit, an upper-case letter, `-`, `(`, `)` and `;`.
abbrev pub is_blank : ℕ → Bool
is_blank b = not (is_ascii_digit b || is_ascii_uppercase b || b == 45 || b == 40 || b == 41 || b == 59)

-- what stands behind all first bytes that pass a test
abbrev pub skip : (ℕ → Bool) → List ℕ → List ℕ
skip test bytes = drop (prefix_len test bytes) bytes

-- what may stand before a number: an upper-case letter or a blank
abbrev pub is_sep : ℕ → Bool
is_sep b = is_ascii_uppercase b || is_blank b

-- the greatest number of a CIF text
unfoldable pub limit : ℕ
limit = 2147483647

-- Digits, from the number's place on. The first value over the limit stands for all that are greater.
pub record Digits (n : Number) (at : ℕ) (bytes : List ℕ) : Type 0 where
  pub some : 0 < length bytes
  pub digits : AllDigits 10 bytes
  pub value : n.value ≡ min (digits_value 10 bytes) (limit + 1)
  pub place : n.at ≡ at
