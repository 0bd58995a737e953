-- What words spell.
use Rattle.std.specs.Prelude.{◌≡◌, ℕ, ◌≤◌, List}
use Rattle.std.specs.Fmt.{decimal}

-- the greatest budget
abbrev pub most_budget : ℕ
most_budget = 1000000

-- The word is the budget in plain decimal. A budget is from 1 to 1,000,000.
pub record SpellsBudget (word : List ℕ) (budget : ℕ) : Type 0 where
  pub some : 1 ≤ budget
  pub few : budget ≤ most_budget
  pub spelled : word ≡ decimal budget
