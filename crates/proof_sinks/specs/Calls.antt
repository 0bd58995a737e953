-- What a call keeps of a text that is told.
use Rattle.std.specs.Prelude.{◌≡◌, ℕ, List, Option, Some, IfSome}

-- where the text is told afterwards, it was told before and is the same
abbrev pub KeepsTold : Option (List ℕ) → Option (List ℕ) → Type 0
KeepsTold old new = IfSome new (λ text. old ≡ Some text)
