-- The table that the search keeps: each number has a parent, which is not greater; a root is its own parent.
-- What is linked so far is what leads to one root. No promise cites these words.
use Rattle.std.specs.Prelude.{◌≡◌, ℕ, ◌<◌, ◌≤◌, Bool, List, length, slice_index}
use Rattle.link_classes.specs.Linked.{Linked}

pub record IsForest (size : ℕ) (parents : List ℕ) : Type 0 where
  pub each : length parents ≡ size
  pub down : (x : ℕ) → x < size → slice_index parents x ≤ x

-- The table gives each number what it gives its parent, and so one value to each tree.
pub record IsOnTrees (parents : List ℕ) (value : ℕ → ℕ) : Type 0 where
  pub same : (x : ℕ) → x < length parents → value (slice_index parents x) ≡ value x

-- Each number is linked to its parent.
pub record IsLinkedForest (touch : ℕ → ℕ → Bool) (parents : List ℕ) : Type 0 where
  pub up : (x : ℕ) → x < length parents → Linked touch (slice_index parents x) x

-- What gives each new tree one value gives each old tree one: no tree was cut.
pub record IsCoarser (old new : List ℕ) : Type 0 where
  pub trees : (value : ℕ → ℕ) → IsOnTrees new value → IsOnTrees old value

-- From x the way up came to this number. Each tree has the numbers and the root that it had, and may be lower.
pub record HasClimbed (old new : List ℕ) (x at : ℕ) : Type 0 where
  pub forest : IsForest (length old) new
  pub trees : IsCoarser old new
  pub roots_stay : (r : ℕ) → r < length old → slice_index old r ≡ r → slice_index new r ≡ r
  pub linked : (touch : ℕ → ℕ → Bool) → IsLinkedForest touch old → IsLinkedForest touch new
  pub below : at ≤ x
  pub same : (value : ℕ → ℕ) → IsOnTrees new value → value at ≡ value x
  pub reached : (touch : ℕ → ℕ → Bool) → IsLinkedForest touch old → Linked touch at x

-- The trees of two numbers are one, and no others were joined.
pub record AreJoinedTrees (old new : List ℕ) (a b : ℕ) : Type 0 where
  pub forest : IsForest (length old) new
  pub trees : IsCoarser old new
  pub linked : (touch : ℕ → ℕ → Bool) → Linked touch a b → IsLinkedForest touch old → IsLinkedForest touch new
  pub same : (value : ℕ → ℕ) → IsOnTrees new value → value a ≡ value b

-- the numbers of the trees so far, and the roots
pub record AreNumberedTrees (parents label least : List ℕ) : Type 0 where
  pub same : (x : ℕ) → x < length label → slice_index label (slice_index parents x) ≡ slice_index label x
  pub below : (x : ℕ) → x < length label → slice_index label x < length least
  pub reached : (touch : ℕ → ℕ → Bool) → IsLinkedForest touch parents → (x : ℕ) → x < length label → Linked touch (slice_index least (slice_index label x)) x
  pub first : (x : ℕ) → x < length label → slice_index least (slice_index label x) ≤ x
  pub inside : (k : ℕ) → k < length least → slice_index least k < length label
  pub own : (k : ℕ) → k < length least → slice_index label (slice_index least k) ≡ k
  pub rising : (j k : ℕ) → j < k → k < length least → slice_index least j < slice_index least k
