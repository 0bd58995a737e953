-- The clause that is learnt from a conflict.
use Rattle.std.specs.Prelude.{◌≡◌, ℕ, ◌-◌, ◌<◌, ◌≤◌, ℤ, neg_ℤ, true, false, List, length, All}
use Rattle.clause_base.specs.Literals.{is_in, lit_at}
use Rattle.clause_base.specs.Teaching.{AllButNegated, IsClosed}
use Rattle.clause_base.specs.Plain.{IsOnce}
use Rattle.search_trail.specs.Trails.{Search, front}

-- The literals below the current level, where a level above 0 has begun; on level 0, which has none below it, those of
-- level 0 itself.
abbrev pub below : Search → List ℤ
below s = front s (length s.starts - 1)

-- Each literal once, none beside its negation, and the negation of each on the trail.
pub record IsLearnt (s : Search) (clause : List ℤ) : Type 0 where
  pub once : IsOnce clause
  pub negated : All (λ l. is_in s.lits (neg_ℤ l) ≡ true) clause

-- It has a literal, the negation of the first is not in `below`, and those of all others are. So where a level above 0
-- has begun and the negation of the first is on the trail, that one alone is on the current level.
pub record IsAsserting (s : Search) (clause : List ℤ) : Type 0 where
  pub some : 0 < length clause
  pub first : is_in (below s) (neg_ℤ (lit_at clause 0)) ≡ false
  pub others : AllButNegated (is_in (below s)) clause (lit_at clause 0)

-- The lowest level on which the negations of all literals but the first stand, on it or below. That of the second stands
-- on no lower one.
pub record IsJump (s : Search) (clause : List ℤ) (level : ℕ) : Type 0 where
  pub lower : 0 < length s.starts → level < length s.starts
  pub reached : AllButNegated (is_in (front s level)) clause (lit_at clause 0)
  pub least : (other : ℕ) → other < level → AllButNegated (is_in (front s other)) clause (lit_at clause 0) → ⊥
  pub second : 2 ≤ length clause → (other : ℕ) → other < level → is_in (front s other) (neg_ℤ (lit_at clause 1)) ≡ false

-- Unit propagation was done for the literals of `below`, which on level 0 are those of that level: nothing is to be added
-- to them, and no clause is false by them.
abbrev pub IsDoneBelow : Search → Type 0
IsDoneBelow s = IsClosed (is_in (below s)) s.clauses
