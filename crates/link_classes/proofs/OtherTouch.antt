-- The classes of one relation are those of every relation that links the same numbers.
use Rattle.std.proofs.Common.{◌≡◌, ℕ, Bool, true, List, slice_index}
use Rattle.link_classes.specs.Linked.{Linked}
use Rattle.link_classes.specs.Classes.{AreClasses}
use Rattle.link_classes.proofs.Chains.{linked_kept, linked_map}

pub classes_by : (size : ℕ) (near touch : ℕ → ℕ → Bool) (label least : List ℕ) → ((a b : ℕ) → near a b ≡ true → Linked touch a b) → ((a b : ℕ) → touch a b ≡ true → Linked near a b)
    → AreClasses size near label least → AreClasses size touch label least
classes_by size near touch label least sound whole h = record {
  each = h.each;
  shared = λ a b is. linked_kept near (λ x. slice_index label x) h.shared a b (whole a b is);
  below = h.below;
  reached = λ a lt. linked_map near touch (λ x. x) sound (slice_index least (slice_index label a)) a (h.reached a lt);
  first = h.first;
  inside = h.inside;
  own = h.own;
  rising = h.rising;
}
