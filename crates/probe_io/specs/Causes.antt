-- The counts of a device's faults: when one rose, what may be answered only where it did, and a count with one more.
use Rattle.std.specs.Prelude.{◌≡◌, ℕ, ◌+◌, ◌-◌, ◌^◌, ◌<◌, ◌≤◌, ◌⊎◌, min, Bool, true, Result, OnOk, OnErr}

-- a count rose in a call: it is greater after it than before, or it stands at the last number that 64 bits hold
abbrev pub Rose : ℕ → ℕ → Type 0
Rose before now = (before < now) ⊎ (now ≡ 2 ^ 64 - 1)

-- a count with one more fault; one that stands at the last number that 64 bits hold stays there
abbrev pub counted : ℕ → ℕ
counted faults = min (faults + 1) (2 ^ 64 - 1)

-- a count never falls: a call that answers an error raised it, and one of a strict device that succeeds left it as it was
pub record HasCause {T E : Type 0} (strict : Bool) (before now : ℕ) (result : Result T E) : Type 0 where
  pub later : before ≤ now
  pub failed : OnErr result (Rose before now)
  pub quiet : strict ≡ true → OnOk result (now ≡ before)
