-- The first fault of a text that spells no formula.
use Rattle.std.specs.Prelude.{◌≡◌, ◌⊎◌, ℕ, ◌<◌, Bool, true, false, not, ◌&&◌, ◌||◌, ◌==◌, List, [], ◌∷◌, ◌++◌, length, codes}
use Rattle.std.specs.List.{list_all}
use Rattle.std.specs.Char.{is_ascii_digit}
use Rattle.std.specs.Str.Parse.{digits_value}
use Rattle.clause_base.specs.declared.faults.FormulaFault.{FormulaFault}
use Rattle.clause_base.specs.declared.faults.FormulaFault.TheVariants.{TooLong, Syntax, TooLarge, NoMemory}
use Rattle.clause_base.specs.Formulas.{Clauses}
use Rattle.clause_base.specs.TextWords.{Word, has_bytes, words_of, texts_of}
use Rattle.clause_base.specs.FormulaText.{most_vars, most_clauses, AreWords, SpellsFormula}

-- A formula may begin with these words.
pub record IsFront (words : List (List ℕ)) : Type 0 where
  pub more : List (List ℕ)
  pub formula : Clauses
  pub are : AreWords (words ++ more) formula

-- The word is the first that can't stand where it stands: a formula may begin with the words before it, but not with them and it.
pub record IsFirstWrong (bytes : List ℕ) (before : List (List ℕ)) (word : Word) : Type 0 where
  pub front : List Word
  pub rest : List Word
  pub whole : words_of bytes ≡ front ++ (word ∷ rest)
  pub texts : texts_of front ≡ before
  pub can : IsFront before
  pub cannot : IsFront (before ++ (word.text ∷ [])) → ⊥

-- digits with no leading zero
abbrev pub is_number : List ℕ → Bool
is_number [] = false
is_number (b ∷ bs) = list_all is_ascii_digit (b ∷ bs) && (not (b == 48) || not (has_bytes bs))

-- a number over the limit
pub record IsOverMost (most : ℕ) (word : List ℕ) : Type 0 where
  pub number : is_number word ≡ true
  pub over : most < digits_value 10 word

-- Behind `p cnf` the word is a number of variables over the limit, or behind `p cnf VARIABLES` one of clauses.
abbrev pub IsTooLarge : List (List ℕ) → List ℕ → Type 0
IsTooLarge before word = ((before ≡ codes "p" ∷ codes "cnf" ∷ []) × IsOverMost most_vars word)
    ⊎ ((vars : List ℕ) × (before ≡ codes "p" ∷ codes "cnf" ∷ vars ∷ []) × IsOverMost most_clauses word)

-- the first word that can't stand where it stands is such a number
pub record IsLargeAt (bytes : List ℕ) (at : ℕ) : Type 0 where
  pub before : List (List ℕ)
  pub word : Word
  pub first : IsFirstWrong bytes before word
  pub large : IsTooLarge before word.text
  pub here : at ≡ word.at

-- or it is another word
pub record IsWrongAt (bytes : List ℕ) (at : ℕ) : Type 0 where
  pub before : List (List ℕ)
  pub word : Word
  pub first : IsFirstWrong bytes before word
  pub other : IsTooLarge before word.text → ⊥
  pub here : at ≡ word.at

-- a formula may begin with all words of the text, but isn't whole at its end
pub record EndsEarly (bytes : List ℕ) (at : ℕ) : Type 0 where
  pub can : IsFront (texts_of (words_of bytes))
  pub cannot : (formula : Clauses) → SpellsFormula bytes formula → ⊥
  pub here : at ≡ length bytes

-- The text has this fault first.
abbrev pub IsFormulaFault : List ℕ → FormulaFault → Type 0
IsFormulaFault bytes (Syntax at) = IsWrongAt bytes at ⊎ EndsEarly bytes at
IsFormulaFault bytes (TooLarge at) = IsLargeAt bytes at
IsFormulaFault bytes TooLong = ⊥
IsFormulaFault bytes NoMemory = ⊥
