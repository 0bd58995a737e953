-- A front of some bytes that was written and counted.
use Rattle.std.specs.Prelude.{◌≡◌, ℕ, ◌+◌, ◌≤◌, List, length, take, Option}
use Rattle.probe_io.specs.Written.{Appends}

-- the first bytes were appended, and the count rose by their number
pub record SendsFront (old new : Option (List ℕ)) (bytes : List ℕ) (before after : ℕ) : Type 0 where
  pub count : ℕ
  pub most : count ≤ length bytes
  pub sent : Appends old new (take count bytes)
  pub counted : after ≡ before + count
