-- What is seen of the sinks.
use Rattle.std.specs.Prelude.{◌≡◌, ℕ, ◌+◌, ◌-◌, ◌^◌, ◌⊎◌, min, Bool, true, not, ◌&&◌, cond, List, [], ◌∷◌, ◌++◌}
use Rattle.refutation_check.specs.Keeping.{Kept}
use Rattle.proof_sinks.specs.declared.lines.Said.{Said}

-- a list: the lines, and whether it takes another
pub record ListView : Type 0 where
  pub said : List Said
  pub live : Bool

-- a pair of sinks
pub record PairView (A B : Type 0) : Type 0 where
  pub first : A
  pub second : B

-- one line more was said to the first
pub record HasOneMore (first second : List Said) : Type 0 where
  pub line : Said
  pub said : first ≡ second ++ line ∷ []

-- both were told the same lines, but for one more that the first may have after an error
pub record AreSame (live : Bool) (first second : List Said) : Type 0 where
  pub alive : live ≡ true → first ≡ second
  pub after : (first ≡ second) ⊎ HasOneMore first second

-- a sink with a chosen call takes another line until that call was made, as long as the one inside does
abbrev pub is_open : Bool → Bool → Bool
is_open has_failed inner = not has_failed && inner

-- the faults of the one inside, and one more once the chosen call was made
abbrev pub all_faults : Bool → ℕ → ℕ
all_faults has_failed inner = min (inner + cond has_failed 1 0) (2 ^ 64 - 1)

-- a printer of lines over a sink of text: how many bytes it sent there, the lines, whether it takes another, and
-- whether all of their text was sent
pub record TextView (K : Type 0) : Type 0 where
  pub sink : K
  pub sent : ℕ
  pub said : List Said
  pub live : Bool
  pub whole : Bool

-- a checker of lines: the checker, the lines, whether it takes another, and how many it refused
pub record CheckView : Type 0 where
  pub checker : Kept
  pub said : List Said
  pub live : Bool
  pub faults : ℕ
