-- When a device in memory fails, and how much a call of it moves.
use Rattle.std.specs.Prelude.{ℕ, ◌+◌, ◌-◌, ◌^◌, ◌==◌, Bool, List, min}
use Rattle.std.specs.List.{list_any}

-- the numbers of the calls that fail, the most bytes that a call moves, and the number of the next call, from 0
pub record FaultPlanView : Type 0 where
  pub fail_at : List ℕ
  pub step : ℕ
  pub next : ℕ

-- the next call is one of those that fail
abbrev pub is_failing : FaultPlanView → Bool
is_failing plan = list_any (λ n. n == plan.next) plan.fail_at

-- the plan after one more call; a number that stands at the last of 64 bits stays there
abbrev pub after_call : FaultPlanView → FaultPlanView
after_call plan = record plan { next = min (plan.next + 1) (2 ^ 64 - 1) }
