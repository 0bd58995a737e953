-- Which texts spell which formulas.
use Rattle.std.specs.Prelude.{◌≡◌, ℕ, ◌≤◌, ℤ, nat_abs, Bool, true, ◌&&◌, nat_lt, nat_le, List, [], ◌∷◌, ◌++◌, length, map, codes}
use Rattle.std.specs.List.{flat_map, list_all}
use Rattle.std.specs.Fmt.{decimal, signed_decimal}
use Rattle.clause_base.specs.Formulas.{Clauses}
use Rattle.clause_base.specs.TextWords.{words_of, texts_of}

-- the most variables of a formula that is read
abbrev pub most_vars : ℕ
most_vars = 1000000

-- the most clauses of a formula that is read
abbrev pub most_clauses : ℕ
most_clauses = 4000000

-- a variable from 1 to vars, or its negation
abbrev pub is_literal_of : ℕ → ℤ → Bool
is_literal_of vars l = nat_lt 0 (nat_abs l) && nat_le (nat_abs l) vars

-- the literals of a clause, and the `0` that ends it
abbrev pub clause_texts : List ℤ → List (List ℕ)
clause_texts clause = map signed_decimal clause ++ (codes "0" ∷ [])

-- The text ends here, or a word begins with `%`: from there on nothing is read.
abbrev pub IsEnd : List (List ℕ) → Type 0
IsEnd [] = Unit {0}
IsEnd ([] ∷ words) = ⊥
IsEnd ((b ∷ bs) ∷ words) = b ≡ 37

-- The words are `p cnf`, the numbers of variables and of clauses, the clauses, and what isn't read.
pub record AreWords (words : List (List ℕ)) (formula : Clauses) : Type 0 where
  pub behind : List (List ℕ)
  pub whole : words ≡ codes "p" ∷ codes "cnf" ∷ decimal formula.vars ∷ decimal (length formula.clauses) ∷ (flat_map clause_texts formula.clauses ++ behind)
  pub ends : IsEnd behind
  pub few_vars : formula.vars ≤ most_vars
  pub few_clauses : length formula.clauses ≤ most_clauses
  pub literals : list_all (list_all (is_literal_of formula.vars)) formula.clauses ≡ true

-- The text spells this formula.
pub record SpellsFormula (bytes : List ℕ) (formula : Clauses) : Type 0 where
  pub words : AreWords (texts_of (words_of bytes)) formula
