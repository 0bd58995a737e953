-- What the readers of a formula's words say.
use Rattle.std.specs.Prelude.{◌≡◌, ◌⊎◌, ℕ, ◌+◌, ◌<◌, ◌≤◌, ℤ, Bool, true, List, [], ◌∷◌, ◌++◌, length, map, codes, Option, Some, None}
use Rattle.std.specs.List.{filter, flat_map, list_all}
use Rattle.std.specs.Fmt.{decimal, signed_decimal}
use Rattle.clause_base.specs.declared.faults.FormulaFault.{FormulaFault}
use Rattle.clause_base.specs.declared.faults.FormulaFault.TheVariants.{TooLong, Syntax, TooLarge, NoMemory}
use Rattle.clause_base.specs.declared.parts.Part.{Part}
use Rattle.clause_base.specs.declared.words.Words.{Words}
use Rattle.clause_base.specs.TextWords.{Word, is_white, is_line_feed, has_bytes, parts_of, words_in_lines, texts_of}
use Rattle.clause_base.specs.FormulaText.{is_literal_of, clause_texts}
use Rattle.clause_base.specs.FormulaFaults.{IsOverMost}

-- ---- words

abbrev pub word_of : Part → Word
word_of part = record { at = part.at; text = part.text.now }

-- the first, and the others
abbrev pub first_of : {A : Type 0} → List A → Option (A × List A)
first_of [] = None
first_of (x ∷ xs) = Some (x, xs)

-- the parts of what is left
abbrev pub cut_at : (ℕ → Bool) → Option Part → List Word
cut_at cuts None = []
cut_at cuts (Some part) = parts_of cuts (word_of part)

-- the words that are left in the line
abbrev pub left_in_line : Option Part → List Word
left_in_line line = filter (λ word. has_bytes word.text) (cut_at is_white line)

-- the words that are left in the other lines
abbrev pub left_in_lines : Option Part → List Word
left_in_lines lines = words_in_lines (cut_at is_line_feed lines)

-- the words that are left
abbrev pub left : Words → List Word
left words = left_in_line words.line ++ left_in_lines words.lines

-- how many bytes are left, and one more where a part is
abbrev pub size_left : Option Part → ℕ
size_left None = 0
size_left (Some part) = length part.text.now + 1

-- ---- what a reader takes

-- the reader has taken words of these texts
pub record Takes (old new : List Word) (texts : List (List ℕ)) : Type 0 where
  pub taken : List Word
  pub whole : old ≡ taken ++ new
  pub spelled : texts_of taken ≡ texts

-- the position of the next word, or of the text's end
abbrev pub next_at : ℕ → List Word → ℕ
next_at end [] = end
next_at end (word ∷ words) = word.at

-- the next word is this one
abbrev pub Begins : List ℕ → List (List ℕ) → Type 0
Begins text [] = ⊥
Begins text (word ∷ words) = word ≡ text

-- the next word is a number over the limit
abbrev pub BeginsLarge : ℕ → List (List ℕ) → Type 0
BeginsLarge most [] = ⊥
BeginsLarge most (word ∷ words) = IsOverMost most word

-- The next word is no number up to this.
abbrev pub IsNumberFault : ℕ → ℕ → List Word → FormulaFault → Type 0
IsNumberFault most end words (Syntax at) = (at ≡ next_at end words) × ((n : ℕ) → n ≤ most → Begins (decimal n) (texts_of words) → ⊥) × (BeginsLarge most (texts_of words) → ⊥)
IsNumberFault most end words (TooLarge at) = (at ≡ next_at end words) × BeginsLarge most (texts_of words)
IsNumberFault most end words TooLong = ⊥
IsNumberFault most end words NoMemory = ⊥

-- a clause goes on with this word
abbrev pub GoesOn : ℕ → List (List ℕ) → Type 0
GoesOn vars [] = ⊥
GoesOn vars (word ∷ words) = (word ≡ codes "0") ⊎ ((l : ℤ) × (is_literal_of vars l ≡ true) × (word ≡ signed_decimal l))

-- the word of a literal, or the one that ends a clause
abbrev pub word_text : Option ℤ → List ℕ
word_text None = codes "0"
word_text (Some l) = signed_decimal l

abbrev pub are_literals : ℕ → List ℤ → Bool
are_literals vars clause = list_all (is_literal_of vars) clause

-- Whole clauses were taken, and literals of the next one; then comes a word that doesn't go on with it.
pub record StopsInClause (vars count end : ℕ) (old : List Word) (at : ℕ) : Type 0 where
  pub clauses : List (List ℤ)
  pub lits : List ℤ
  pub new : List Word
  pub takes : Takes old new (flat_map clause_texts clauses ++ map signed_decimal lits)
  pub fewer : length clauses < count
  pub all_literals : list_all (are_literals vars) clauses ≡ true
  pub literals : are_literals vars lits ≡ true
  pub stops : GoesOn vars (texts_of new) → ⊥
  pub here : at ≡ next_at end new

abbrev pub IsClauseFault : ℕ → ℕ → ℕ → List Word → FormulaFault → Type 0
IsClauseFault vars count end old (Syntax at) = StopsInClause vars count end old at
IsClauseFault vars count end old NoMemory = Unit {0}
IsClauseFault vars count end old TooLong = ⊥
IsClauseFault vars count end old (TooLarge at) = ⊥
