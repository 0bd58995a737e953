-- What two watched literals of a clause keep.
use Rattle.std.specs.Prelude.{◌≡◌, ◌≢◌, ◌⊎◌, ℕ, ◌<◌, ◌≤◌, ℤ, neg_ℤ, true, Option, Some, None, List, [], ◌∷◌, ◌++◌, length, take, min, Any, All, Contains}
use Rattle.clause_base.specs.Literals.{is_in}
use Rattle.clause_base.specs.Novelty.{IsTautology}
use Rattle.refutation_check.specs.Following.{IsNumber, numbered}
use Rattle.search_trail.specs.Trails.{Search, front, start_at}
use Rattle.clause_watches.specs.Listing.{pair_of}

-- The watches of a search: how many literals of the trail were gone through, and where each clause is watched.
pub record Watched : Type 0 where
  pub vars : ℕ
  pub head : ℕ
  pub pairs : List (Option (ℤ × ℤ))

-- Where the literal is false and its negation was gone through, the other is true on the same level or below.
pub record IsBacked (s : Search) (head : ℕ) (lit other : ℤ) : Type 0 where
  pub backed : is_in (take head s.lits) (neg_ℤ lit) ≡ true → (level : ℕ) → is_in (front s level) (neg_ℤ lit) ≡ true → is_in (front s level) other ≡ true

-- two literals of the clause, each backed by the other
pub record IsGuarded (s : Search) (head : ℕ) (clause : List ℤ) (a b : ℤ) : Type 0 where
  pub first : Contains clause a
  pub second : Contains clause b
  pub differ : a ≢ b
  pub first_backed : IsBacked s head a b
  pub second_backed : IsBacked s head b a

-- a tautology, or a clause with a literal that is true on level 0
abbrev pub IsIdle : Search → List ℤ → Type 0
IsIdle s clause = IsTautology clause ⊎ Any (λ l. is_in (front s 0) l ≡ true) clause

-- what is kept of a clause that is watched at these two literals, or not at all
abbrev pub IsWatched : Search → ℕ → List ℤ → Option (ℤ × ℤ) → Type 0
IsWatched s head clause None = IsIdle s clause
IsWatched s head clause (Some pair) = IsGuarded s head clause pair.0 pair.1

-- what watches keep of a search: all was gone through when each level began, and each clause is guarded
pub record AreWatched (s : Search) (w : Watched) : Type 0 where
  pub vars : w.vars ≡ s.vars
  pub paired : length w.pairs ≡ length s.clauses
  pub gone : w.head ≤ length s.lits
  pub levels : (j : ℕ) → j < length s.starts → start_at s.starts j ≤ w.head
  pub kept : (number : ℕ) → IsNumber s.clauses number → IsWatched s w.head (numbered s.clauses number) (pair_of w.pairs number)

-- only literals joined the trail, on its current level
pub record HasGrown (old new : Search) : Type 0 where
  pub vars : new.vars ≡ old.vars
  pub clauses : new.clauses ≡ old.clauses
  pub starts : new.starts ≡ old.starts
  pub lits : take (length old.lits) new.lits ≡ old.lits
  pub more : length old.lits ≤ length new.lits

-- each literal of the clause of this number is false
pub record IsConflict (s : Search) (number : ℕ) : Type 0 where
  pub known : IsNumber s.clauses number
  pub failed : All (λ l. is_in s.lits (neg_ℤ l) ≡ true) (numbered s.clauses number)

-- nothing was gone through, and no clause is watched
abbrev pub nothing_watched : ℕ → Watched
nothing_watched vars = record { vars = vars; head = 0; pairs = [] }

-- one clause more is watched
abbrev pub with_pair : Watched → Option (ℤ × ℤ) → Watched
with_pair w pair = record { vars = w.vars; head = w.head; pairs = w.pairs ++ pair ∷ [] }

-- no more than this many literals were gone through
abbrev pub gone_back : Watched → ℕ → Watched
gone_back w size = record { vars = w.vars; head = min w.head size; pairs = w.pairs }
