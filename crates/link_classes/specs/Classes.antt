-- The classes of the numbers below a size, as two tables.
use Rattle.std.specs.Prelude.{◌≡◌, ℕ, ◌<◌, ◌≤◌, Bool, true, ◌&&◌, ◌==◌, List, length, slice_index}
use Rattle.std.specs.List.{list_any}
use Rattle.link_classes.specs.Linked.{Linked}

-- the list has this pair
abbrev pub has_pair : List (ℕ × ℕ) → ℕ → ℕ → Bool
has_pair pairs a b = list_any (λ p. p.0 == a && p.1 == b) pairs

-- `label` gives each number below the size the number of its class, and `least` gives each class its least member.
-- Classes are numbered from 0 in the order of their least members.
pub record AreClasses (size : ℕ) (touch : ℕ → ℕ → Bool) (label least : List ℕ) : Type 0 where
  pub each : length label ≡ size
  -- what touches is of one class, and a class is linked
  pub shared : (a b : ℕ) → touch a b ≡ true → slice_index label a ≡ slice_index label b
  pub below : (a : ℕ) → a < size → slice_index label a < length least
  pub reached : (a : ℕ) → a < size → Linked touch (slice_index least (slice_index label a)) a
  pub first : (a : ℕ) → a < size → slice_index least (slice_index label a) ≤ a
  -- the least member of a class is one of it, and they rise
  pub inside : (k : ℕ) → k < length least → slice_index least k < size
  pub own : (k : ℕ) → k < length least → slice_index label (slice_index least k) ≡ k
  pub rising : (j k : ℕ) → j < k → k < length least → slice_index least j < slice_index least k
