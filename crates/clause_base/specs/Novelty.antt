-- When a clause says something that no earlier clause says.
use Rattle.std.specs.Prelude.{◌≢◌, ℤ, neg_ℤ, List, [], ◌∷◌, ◌++◌, All, Contains}

-- no literal stands beside its negation
pub record IsApart (clause : List ℤ) : Type 0 where
  pub apart : (l : ℤ) → Contains clause l → Contains clause (neg_ℤ l) → ⊥

-- A literal stands beside its negation, and this is the literal. A list of literals is a tautology exactly where it isn't
-- apart: that is the law `tautology_or_apart`.
pub record IsTautology (clause : List ℤ) : Type 0 where
  pub lit : ℤ
  pub there : Contains clause lit
  pub back : Contains clause (neg_ℤ lit)
  pub differ : lit ≢ neg_ℤ lit

-- two clauses list the same literals
pub record HaveSame (a b : List ℤ) : Type 0 where
  pub there : All (Contains b) a
  pub back : All (Contains a) b

-- The clause has no literal together with its negation, and no earlier clause has the same set of literals.
pub record IsNew (earlier : List (List ℤ)) (clause : List ℤ) : Type 0 where
  pub apart : IsApart clause
  pub fresh : All (λ other. HaveSame other clause → ⊥) earlier

-- Each clause is new after the earlier ones and those before it.
abbrev pub AreNew : List (List ℤ) → List (List ℤ) → Type 0
AreNew earlier [] = Unit {0}
AreNew earlier (clause ∷ clauses) = IsNew earlier clause × AreNew (earlier ++ clause ∷ []) clauses
