-- Clauses that are kept one behind the other, and the places where each ends.
use Rattle.std.specs.Prelude.{◌≡◌, ℕ, zero, suc, ◌-◌, ◌≤◌, ℤ, List, [], ◌∷◌, take, drop, slice_index}
use Rattle.clause_base.specs.Literals.{IsRising}
use Rattle.clause_base.specs.Novelty.{IsApart}

-- The clause lists each literal once, in rising order, and none beside its negation.
pub record IsNormal (clause : List ℤ) : Type 0 where
  pub rising : IsRising clause
  pub apart : IsApart clause

-- the clauses, the first of which begins at this place
abbrev pub clauses_from : ℕ → List ℕ → List ℤ → List (List ℤ)
clauses_from start [] lits = []
clauses_from start (end ∷ ends) lits = take (end - start) (drop start lits) ∷ clauses_from end ends lits

-- where the clause of this number begins, if the first begins at `start`: at the end of the one before
abbrev pub begin_of : ℕ → List ℕ → ℕ → ℕ
begin_of start ends zero = start
begin_of start ends (suc k) = slice_index ends k

-- Each end is no less than the one before, and the last is that of the literals.
abbrev pub AreEnds : ℕ → List ℕ → ℕ → Type 0
AreEnds start [] size = start ≡ size
AreEnds start (end ∷ ends) size = (start ≤ end) × AreEnds end ends size
