-- Rows: the cells of a region with one y, as a list of ends.
use Rattle.std.specs.Prelude.{◌≡◌, ℕ, ◌+◌, ◌-◌, ◌<◌, ◌≤◌, ◌^◌, ◌⊎◌, ℤ, pos, ◌≤ℤ◌, ◌<ℤ◌, Bool, false, List, length, take, slice_index_or}
use Rattle.std.specs.List.{All}
use Rattle.plane_geom.specs.Bounds.{IsWithin}
use Rattle.plane_geom.specs.Ends.{is_odd, flips}

-- the end with this index
abbrev pub end_at : List ℤ → ℕ → ℤ
end_at ends k = slice_index_or ends k (pos 0)

-- The ends rise, each above the one before it, and lie within 2^25 of 0.
pub record IsRising (ends : List ℤ) : Type 0 where
  pub each : (k : ℕ) → k + 1 < length ends → end_at ends k <ℤ end_at ends (k + 1)
  pub within : All (IsWithin (2 ^ 25)) ends

-- The ends of a row: they rise, and each span that begins ends.
pub record IsRow (ends : List ℤ) : Type 0 where
  pub rising : IsRising ends
  pub even : is_odd (length ends) ≡ false

-- The number is the least end of two lists, from these indices on.
pub record IsNextEnd (a : List ℤ) (i : ℕ) (b : List ℤ) (j : ℕ) (x : ℤ) : Type 0 where
  pub in_a : i < length a → x ≤ℤ end_at a i
  pub in_b : j < length b → x ≤ℤ end_at b j
  pub one : ((i < length a) × (x ≡ end_at a i)) ⊎ ((j < length b) × (x ≡ end_at b j))

-- Below x the set stays the same, and from x on all is in it, or nothing.
pub record Turns (before after : List ℤ) (x : ℤ) (on : Bool) : Type 0 where
  pub kept : (z : ℤ) → z <ℤ x → flips after z ≡ flips before z
  pub now : (z : ℤ) → x ≤ℤ z → flips after z ≡ on

-- From index k on the ends at x are passed, up to index r.
pub record IsPast (ends : List ℤ) (k : ℕ) (x : ℤ) (r : ℕ) : Type 0 where
  pub in_range : r ≤ length ends
  pub from : k ≤ r
  pub on : k < length ends → x ≡ end_at ends k → k < r
  pub ahead : r < length ends → x <ℤ end_at ends r
  pub up_to : All (λ t. t ≤ℤ x) (take r ends)
  pub turns : Turns (take k ends) (take r ends) x (is_odd r)

-- The row was turned at x, so that from there on it is on, or off.
pub record IsTurned (before after : List ℤ) (x : ℤ) (on : Bool) : Type 0 where
  pub rising : IsRising after
  pub up_to : All (λ t. t ≤ℤ x) after
  pub whole : is_odd (length after) ≡ on
  pub turns : Turns before after x on

-- From index k up to index r the ends lie below the limit.
pub record IsBelowFrom (ends : List ℤ) (k : ℕ) (limit : ℤ) (r : ℕ) : Type 0 where
  pub in_range : r ≤ length ends
  pub from : k ≤ r
  pub below : k < r → end_at ends (r - 1) <ℤ limit

-- From index k up to index r the ends lie below the end of the other row with index l, where it has such an end.
pub record IsSkipped (ends : List ℤ) (k : ℕ) (other : List ℤ) (l r : ℕ) : Type 0 where
  pub in_range : r ≤ length ends
  pub from : k ≤ r
  pub below : k < r → l < length other → end_at ends (r - 1) <ℤ end_at other l

-- The two lists begin with the same k ends.
pub record IsCommon (a b : List ℤ) (k : ℕ) : Type 0 where
  pub in_a : k ≤ length a
  pub in_b : k ≤ length b
  pub same : take k a ≡ take k b

-- The two lists have the same end with index k.
pub record IsSameEnd (a b : List ℤ) (k : ℕ) : Type 0 where
  pub in_a : k < length a
  pub in_b : k < length b
  pub same : end_at a k ≡ end_at b k
