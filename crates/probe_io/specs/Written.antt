-- What a call wrote to a sink, where the sink tells what was written.
use Rattle.std.specs.Prelude.{◌≡◌, ℕ, List, ◌++◌, Option, IfSome, IsSomeAnd}

-- where the new text is told, the old one was told, and the new one is the old one with these bytes at its end
pub record Appends (old new : Option (List ℕ)) (bytes : List ℕ) : Type 0 where
  pub told : IfSome new (λ now. IsSomeAnd old (λ before. now ≡ before ++ bytes))

-- the same of some front of these bytes
pub record AppendsFront (old new : Option (List ℕ)) (bytes : List ℕ) : Type 0 where
  pub sent : List ℕ
  pub rest : List ℕ
  pub whole : bytes ≡ sent ++ rest
  pub front : Appends old new sent
