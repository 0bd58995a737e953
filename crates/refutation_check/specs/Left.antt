-- How much of a clause is outside a set of literals.
use Rattle.std.specs.Prelude.{ℤ, Bool, List}
use Rattle.refutation_check.specs.Following.{HasFailed, IsUnit}
use Rattle.refutation_check.specs.declared.hints.Left.{Left}
use Rattle.refutation_check.specs.declared.hints.Left.TheVariants.{Nothing, Sole, Several}

-- none, exactly one, or more
abbrev pub IsLeft : (ℤ → Bool) → List ℤ → Left → Type 0
IsLeft fails clause Nothing = HasFailed fails clause
IsLeft fails clause (Sole lit) = IsUnit fails clause lit
IsLeft fails clause Several = (HasFailed fails clause → ⊥) × ((lit : ℤ) → IsUnit fails clause lit → ⊥)
