-- When a clause teaches unit propagation something new.
-- A set of literals is a test: the literals that are known to be true.
use Rattle.std.specs.Prelude.{◌≡◌, ◌⊎◌, ℤ, neg_ℤ, Bool, true, false, List, All, Contains}

-- each literal of the clause but this one is negated in the set
abbrev pub AllButNegated : (ℤ → Bool) → List ℤ → ℤ → Type 0
AllButNegated set clause lit = All (λ m. (m ≡ lit) ⊎ (set (neg_ℤ m) ≡ true)) clause

-- no literal is in the set together with its negation
pub record IsConsistent (set : ℤ → Bool) : Type 0 where
  pub apart : (l : ℤ) → set l ≡ true → set (neg_ℤ l) ≡ false

-- The clause is not false in the set; and where all its literals but one are negated in the set, that one is in it.
pub record IsPropagated (set : ℤ → Bool) (clause : List ℤ) : Type 0 where
  pub standing : All (λ m. set (neg_ℤ m) ≡ true) clause → ⊥
  pub unit : (lit : ℤ) → Contains clause lit → AllButNegated set clause lit → set (neg_ℤ lit) ≡ false → set lit ≡ true

-- Unit propagation over the clauses adds nothing to the set, and meets no conflict.
abbrev pub IsClosed : (ℤ → Bool) → List (List ℤ) → Type 0
IsClosed set clauses = All (IsPropagated set) clauses

-- For one literal of the clause, some consistent closed set has the negations of all the others and leaves this one open.
pub record Teaches (earlier : List (List ℤ)) (clause : List ℤ) : Type 0 where
  pub lit : ℤ
  pub there : Contains clause lit
  pub set : ℤ → Bool
  pub consistent : IsConsistent set
  pub closed : IsClosed set earlier
  pub others : AllButNegated set clause lit
  pub open_ : set lit ≡ false
  pub open_negated : set (neg_ℤ lit) ≡ false

-- Unit propagation alone refutes the clauses not: some consistent set is closed over them.
pub record IsOpen (clauses : List (List ℤ)) : Type 0 where
  pub set : ℤ → Bool
  pub consistent : IsConsistent set
  pub closed : IsClosed set clauses
