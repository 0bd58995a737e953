-- The walk down the trail from a conflict.
use Rattle.std.specs.Prelude.{◌≡◌, ℕ, ◌-◌, ◌<◌, ◌≤◌, ℤ, neg_ℤ, Bool, true, false, List, length, map, reverse, slice_index_or}
use Rattle.clause_base.specs.Literals.{is_in, lit_at}
use Rattle.refutation_check.specs.Following.{Runs}
use Rattle.search_trail.specs.Trails.{Search, start_at}

-- whether the place is marked
abbrev pub is_seen : List Bool → ℕ → Bool
is_seen seen place = slice_index_or seen place false

-- the negations of the literals at these places
abbrev pub falses : List ℤ → List ℕ → List ℤ
falses lits places = map (λ p. neg_ℤ (lit_at lits p)) places

-- A literal at this place may be kept: there is a level above 0, and where the place is on the current level, no other
-- place of that level is marked below it.
pub record MayStay (starts : List ℕ) (seen : List Bool) (place : ℕ) : Type 0 where
  pub level : 0 < length starts
  pub alone : start_at starts (length starts - 1) ≤ place → (q : ℕ) → start_at starts (length starts - 1) ≤ q → q < place → is_seen seen q ≡ false

-- The walk has come down to this place: whatever makes false the literals that are kept, and those marked below, makes
-- the hints lead to a clause that has failed.
pub record IsWalk (s : Search) (seen : List Bool) (place : ℕ) (kept : List ℕ) (hints : List ℕ) : Type 0 where
  pub size : length seen ≡ length s.lits
  pub run : (fails : ℤ → Bool) → ((l : ℤ) → fails l ≡ true → is_in s.lits (neg_ℤ l) ≡ true)
      → ((p : ℕ) → p < place → is_seen seen p ≡ true → fails (neg_ℤ (lit_at s.lits p)) ≡ true)
      → ((k : ℕ) → k < length kept → fails (neg_ℤ (lit_at s.lits (start_at kept k))) ≡ true) → Runs s.clauses fails (reverse hints)
  pub down : (k : ℕ) → k < length kept → place ≤ start_at kept k
  pub inside : (k : ℕ) → k < length kept → start_at kept k < length s.lits
  pub falling : (j k : ℕ) → j < k → k < length kept → start_at kept k < start_at kept j
  pub level : 0 < length kept → 0 < length s.starts
  pub others : (k : ℕ) → 0 < k → k < length kept → start_at kept k < start_at s.starts (length s.starts - 1)
  pub alone : 0 < length kept → (q : ℕ) → start_at s.starts (length s.starts - 1) ≤ q → q < place → is_seen seen q ≡ false
