-- A clause that joins a search.
use Rattle.std.specs.Prelude.{◌≡◌, ◌≢◌, ℕ, ℤ, Option, Some, None, IfSome, IfNone, List, [], ◌∷◌, ◌++◌, All, Contains}
use Rattle.search_trail.specs.Trails.{Search}
use Rattle.clause_watches.specs.Watching.{Watched, AreWatched, IsConflict}
use Rattle.conflict_solver.specs.declared.joining.Firsts.{Firsts}
use Rattle.conflict_solver.specs.declared.joining.Firsts.TheVariants.{Nothing, Sole, Pair}

-- the clause lists no literal but this one
abbrev pub ListsOnly : List ℤ → ℤ → Type 0
ListsOnly clause lit = All (λ l. l ≡ lit) clause

-- the clause is empty, lists one literal alone, or has these two
abbrev pub AreFirsts : List ℤ → Firsts → Type 0
AreFirsts clause Nothing = clause ≡ []
AreFirsts clause (Sole a) = Contains clause a × ListsOnly clause a
AreFirsts clause (Pair a b) = Contains clause a × Contains clause b × (a ≢ b)

-- one clause more, over the same variables
pub record HasJoined (old new : Search) (clause : List ℤ) : Type 0 where
  pub vars : new.vars ≡ old.vars
  pub clauses : new.clauses ≡ old.clauses ++ clause ∷ []

-- A clause was given before a level begins: all clauses are watched, or the one that was found is false.
pub record HasGiven (old new : Search) (w : Watched) (clause : List ℤ) (found : Option ℕ) : Type 0 where
  pub joined : HasJoined old new clause
  pub ground : new.starts ≡ []
  pub head : w.head ≡ 0
  pub kept : IfNone found (AreWatched new w)
  pub failed : IfSome found (IsConflict new)

-- the first two literals, or none where there are fewer
abbrev pub pair_at : List ℤ → Option (ℤ × ℤ)
pair_at [] = None
pair_at (a ∷ []) = None
pair_at (a ∷ b ∷ lits) = Some (a, b)
