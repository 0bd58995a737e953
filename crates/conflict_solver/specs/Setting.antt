-- Which variables of a search are set, and to what.
use Rattle.std.specs.Prelude.{◌≡◌, ◌⊎◌, ℕ, ◌+◌, ◌<◌, ◌≤◌, ℤ, pos, neg_ℤ, nat_abs, Bool, true, false, List, length, take, slice_index_or, All, Any}
use Rattle.clause_base.specs.Literals.{is_in}
use Rattle.search_trail.specs.Trails.{Search, with_decision}
use Rattle.conflict_solver.specs.declared.verdict.Verdict.{Verdict}
use Rattle.conflict_solver.specs.declared.verdict.Verdict.TheVariants.{Values, Refuted, Undecided}

-- neither the literal nor its negation is true
pub record IsUnset (s : Search) (lit : ℤ) : Type 0 where
  pub within : nat_abs lit ≤ s.vars
  pub unset : is_in s.lits lit ≡ false
  pub unset_negated : is_in s.lits (neg_ℤ lit) ≡ false

-- the variable is true, or its negation is
abbrev pub IsSet : Search → ℕ → Type 0
IsSet s n = (is_in s.lits (pos n) ≡ true) ⊎ (is_in s.lits (neg_ℤ (pos n)) ≡ true)

-- each variable from 1 to this is set
abbrev pub AreSet : Search → ℕ → Type 0
AreSet s most = (n : ℕ) → 0 < n → n ≤ most → IsSet s n

-- for each variable from 1 to this whether it is true
pub record AreValues (s : Search) (most : ℕ) (values : List Bool) : Type 0 where
  pub each : length values ≡ most
  pub values_are : (place : ℕ) (d : Bool) → place < most → slice_index_or values place d ≡ is_in s.lits (pos (place + 1))

-- each of the first clauses has a true literal
abbrev pub AreTrue : Search → ℕ → Type 0
AreTrue s count = All (λ clause. Any (λ l. is_in s.lits l ≡ true) clause) (take count s.clauses)

-- what a verdict says that is found where nothing is left to propagate
abbrev pub IsSettled : Search → ℕ → Verdict → Type 0
IsSettled s left (Values values) = AreTrue s (length s.clauses) × AreValues s s.vars values.items
IsSettled s left Refuted = ⊥
IsSettled s left Undecided = left ≡ 0

-- a literal that wasn't set begins a level
pub record HasDecided (old new : Search) : Type 0 where
  pub lit : ℤ
  pub unset : IsUnset old lit
  pub begun : new ≡ with_decision old lit
