-- The clauses that are watched at a literal which has become false, one after the other.
use Rattle.std.specs.Prelude.{◌≡◌, ◌≢◌, ◌⊎◌, ℕ, ◌<◌, ◌≤◌, ◌+◌, ℤ, neg_ℤ, true, false, Some, List, length, take, All, Contains}
use Rattle.clause_base.specs.Literals.{is_in, lit_at}
use Rattle.clause_base.specs.Teaching.{AllButNegated}
use Rattle.refutation_check.specs.Following.{IsNumber, numbered}
use Rattle.search_trail.specs.Trails.{Search, start_at}
use Rattle.clause_watches.specs.Listing.{Listed, pair_of, list_of, IsOther}
use Rattle.clause_watches.specs.Watching.{Watched, IsWatched}
use Rattle.clause_watches.specs.declared.visit.Action.{Action}
use Rattle.clause_watches.specs.declared.visit.Action.TheVariants.{Stays, Moves, Implies, Conflicts}

-- the watches stay: the clause isn't watched at this literal, or the other one is true
abbrev pub IsStill : Search → ℤ × ℤ → ℤ → Type 0
IsStill s pair gone = ((pair.0 ≢ gone) × (pair.1 ≢ gone)) ⊎ ((pair.0 ≡ gone) × (is_in s.lits pair.1 ≡ true)) ⊎ ((pair.1 ≡ gone) × (is_in s.lits pair.0 ≡ true))

-- another literal of the clause that isn't false
pub record IsReplacement (s : Search) (clause : List ℤ) (other to : ℤ) : Type 0 where
  pub there : Contains clause to
  pub differ : to ≢ other
  pub standing : is_in s.lits (neg_ℤ to) ≡ false

-- no other literal of the clause is left
pub record IsSole (s : Search) (clause : List ℤ) (other : ℤ) : Type 0 where
  pub others : AllButNegated (is_in s.lits) clause other
  pub unset : is_in s.lits other ≡ false
  pub standing : is_in s.lits (neg_ℤ other) ≡ false

-- what to do with a clause, one of whose watched literals has become false
abbrev pub IsAction : Search → List ℤ → ℤ × ℤ → ℤ → Action → Type 0
IsAction s clause pair gone Stays = IsStill s pair gone
IsAction s clause pair gone (Moves to other) = IsOther (Some pair) gone other × IsReplacement s clause other to
IsAction s clause pair gone (Implies other) = IsOther (Some pair) gone other × IsSole s clause other
IsAction s clause pair gone Conflicts = All (λ l. is_in s.lits (neg_ℤ l) ≡ true) clause

-- The literal is the negation of the one at the head. Each clause is kept with that one gone through, or waits in the
-- literal's list before this index.
pub record IsVisit (s : Search) (w : Listed) (head : ℕ) (gone : ℤ) (index : ℕ) : Type 0 where
  pub vars : w.vars ≡ s.vars
  pub paired : length w.pairs ≡ length s.clauses
  pub inside : head < length s.lits
  pub here : neg_ℤ gone ≡ lit_at s.lits head
  pub levels : (j : ℕ) → j < length s.starts → start_at s.starts j ≤ head
  pub kept : (number : ℕ) → IsNumber s.clauses number → IsWatched s head (numbered s.clauses number) (pair_of w.pairs number)
  pub next : (number : ℕ) → IsNumber s.clauses number → IsWatched s (head + 1) (numbered s.clauses number) (pair_of w.pairs number) ⊎ Contains (take index (list_of w.lists gone)) number
  pub bound : index ≤ length (list_of w.lists gone)

-- the watches with so many literals gone through
abbrev pub watched_at : Listed → ℕ → Watched
watched_at w head = record { vars = w.vars; head = head; pairs = w.pairs }
