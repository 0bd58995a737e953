-- Classes of linked things, and their numbers: the classes are numbered from 0 by their least members.
use Rattle.std.specs.Prelude.{◌≡◌, ℕ, ◌<◌, Bool, true, List, length, slice_get, Some}
use Rattle.std.specs.declared.cmp.Ordering.{Ordering}
use Rattle.std.specs.declared.cmp.Ordering.TheVariants.{Less}
use Rattle.link_classes.specs.Linked.{Linked}

-- It is one of the things, and none that is linked to it comes before it.
pub record IsLeast {A : Type 0} (order : A → A → Ordering) (is_thing : A → Bool) (link : A → A → Bool) (a : A) : Type 0 where
  pub thing : is_thing a ≡ true
  pub least : (b : A) → Linked link a b → order b a ≡ Less → ⊥

-- The list has the least member of each class, in rising order.
pub record AreRoots {A : Type 0} (order : A → A → Ordering) (is_thing : A → Bool) (link : A → A → Bool) (roots : List A) : Type 0 where
  pub least : (k : ℕ) (r : A) → slice_get roots k ≡ Some r → IsLeast order is_thing link r
  pub every : (a : A) → is_thing a ≡ true → (k : ℕ) × (r : A) × (slice_get roots k ≡ Some r) × Linked link a r
  pub rising : (j k : ℕ) (q r : A) → j < k → slice_get roots j ≡ Some q → slice_get roots k ≡ Some r → order q r ≡ Less

-- The thing lies in the class of this number.
pub record IsNumber {A : Type 0} (order : A → A → Ordering) (is_thing : A → Bool) (link : A → A → Bool) (a : A) (number : ℕ) : Type 0 where
  pub roots : List A
  pub are : AreRoots order is_thing link roots
  pub root : A
  pub at : slice_get roots number ≡ Some root
  pub thing : is_thing a ≡ true
  pub linked : Linked link a root

-- There are so many classes.
pub record IsCount {A : Type 0} (order : A → A → Ordering) (is_thing : A → Bool) (link : A → A → Bool) (count : ℕ) : Type 0 where
  pub roots : List A
  pub are : AreRoots order is_thing link roots
  pub is : length roots ≡ count
