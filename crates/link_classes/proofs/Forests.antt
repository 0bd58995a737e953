-- One step up a tree, and two trees joined.
use Rattle.std.proofs.Common.{◌≡◌, ◌≢◌, ℕ, ◌<◌, ◌≤◌, ◌⊎◌, Bool, List, length, min, max, refl, sym, ap, ◌∙◌, subst, arith, slice_index, slice_set, inl, inr}
use Rattle.std.proofs.lemmas.Bool.{cases_eq, cases_lt}
use Rattle.std.proofs.lemmas.List.{get_or-set_same, get_or-set_other, length-set}
use Rattle.link_classes.specs.Linked.{Linked}
use Rattle.link_classes.specs.Forest.{IsForest, IsOnTrees, IsLinkedForest, IsCoarser, HasClimbed, AreJoinedTrees}
use Rattle.link_classes.proofs.Chains.{linked_refl, linked_sym, linked_trans}

by_eq : {P : Type 0} (a b : ℕ) → (a ≡ b → P) → (a ≢ b → P) → P
by_eq a b same other = elim (cases_eq a b) [ inl e ↦ same e | inr n ↦ other n ]

set_here : (xs : List ℕ) (i j y : ℕ) → i < length xs → j ≡ i → slice_index (slice_set xs i y) j ≡ y
set_here xs i j y inside same = ap (λ k. slice_index (slice_set xs i y) k) same ∙ get_or-set_same xs i y 0 inside

set_there : (xs : List ℕ) (i j y : ℕ) → j ≢ i → slice_index (slice_set xs i y) j ≡ slice_index xs j
set_there xs i j y other = get_or-set_other xs i j y 0 other

-- what holds of the number that was set, and of the others, holds of all
at_each : (P : ℕ → ℕ → Type 0) (xs : List ℕ) (i y j : ℕ) → i < length xs → P i y → (j ≢ i → P j (slice_index xs j)) → P j (slice_index (slice_set xs i y) j)
at_each P xs i y j inside here others = by_eq j i
    (λ same. subst (λ k. P k (slice_index (slice_set xs i y) k)) (sym same) (subst (P i) (sym (set_here xs i i y inside refl)) here))
    (λ other. subst (P j) (sym (set_there xs i j y other)) (others other))

-- ---- a number that gets another parent

moved_forest : (size : ℕ) (xs : List ℕ) (at above : ℕ) → IsForest size xs → at < size → above ≤ at → IsForest size (slice_set xs at above)
moved_forest size xs at above forest inside below = record {
  each = length-set xs at above ∙ forest.each;
  down = λ x lt. at_each (λ j v. v ≤ j) xs at above x (omega (arith, inside, forest.each)) below (λ _. forest.down x lt);
}

moved_linked : (touch : ℕ → ℕ → Bool) (xs : List ℕ) (at above : ℕ) → at < length xs → Linked touch above at → IsLinkedForest touch xs → IsLinkedForest touch (slice_set xs at above)
moved_linked touch xs at above inside here linked = record {
  up = λ x lt. at_each (λ j v. Linked touch v j) xs at above x inside here (λ _. linked.up x (subst (λ n. x < n) (length-set xs at above) lt));
}

-- a number that was under its parent's parent is still in the same tree
hung_trees : (xs : List ℕ) (at above : ℕ) → IsForest (length xs) xs → at < length xs → above ≡ slice_index xs (slice_index xs at) → IsCoarser xs (slice_set xs at above)
hung_trees xs at above forest inside is = record {
  trees = λ value on. record {
    same = λ x lt. by_eq x at
        (λ here. subst (λ k. value (slice_index xs k) ≡ value k) (sym here) (parent_same value on))
        (λ other. ap value (sym (set_there xs at x above other)) ∙ on.same x (longer x lt));
  };
} where
  longer : (x : ℕ) → x < length xs → x < length (slice_set xs at above)
  longer x lt = subst (λ n. x < n) (sym (length-set xs at above)) lt

  parent_same : (value : ℕ → ℕ) → IsOnTrees (slice_set xs at above) value → value (slice_index xs at) ≡ value at
  parent_same value on = by_eq (slice_index xs at) at
      (λ root. ap value root)
      (λ other. sym (on.same (slice_index xs at) (longer (slice_index xs at) (omega (arith, inside, forest.down at inside))))
      ∙ ap value (set_there xs at (slice_index xs at) above other ∙ sym is ∙ sym (set_here xs at at above inside refl))
      ∙ on.same at (longer at inside))

pub climbed_none : (xs : List ℕ) (x : ℕ) → IsForest (length xs) xs → HasClimbed xs xs x x
climbed_none xs x forest = record {
  forest = forest;
  trees = record { trees = λ value on. on };
  roots_stay = λ r lt is. is;
  linked = λ touch h. h;
  below = omega arith;
  same = λ value on. refl;
  reached = λ touch h. linked_refl touch x;
}

pub climbed_more : (old new : List ℕ) (x at above : ℕ) → at < length old → above ≡ slice_index new (slice_index new at) → HasClimbed old new x at → HasClimbed old (slice_set new at above) x above
climbed_more old new x at above inside is h = record {
  forest = moved_forest (length old) new at above h.forest inside low;
  trees = record { trees = λ value on. h.trees.trees value (hung.trees value on) };
  roots_stay = λ r lt root. stays r (h.roots_stay r lt root);
  linked = λ touch linked. moved_linked touch new at above within (higher touch (h.linked touch linked)) (h.linked touch linked);
  below = omega (arith, low, h.below);
  same = λ value on. above_same value on ∙ h.same value (hung.trees value on);
  reached = λ touch linked. linked_trans touch above at x (higher touch (h.linked touch linked)) (h.reached touch linked);
} where
  within : at < length new
  within = omega (arith, inside, h.forest.each)

  parent_low : slice_index new at ≤ at
  parent_low = h.forest.down at inside

  low : above ≤ at
  low = subst (λ n. n ≤ at) (sym is) (omega (arith, parent_low, h.forest.down (slice_index new at) (omega (arith, parent_low, inside))))

  sized : IsForest (length new) new
  sized = subst (λ n. IsForest n new) (sym h.forest.each) h.forest

  hung : IsCoarser new (slice_set new at above)
  hung = hung_trees new at above sized within is

  stays : (r : ℕ) → slice_index new r ≡ r → slice_index (slice_set new at above) r ≡ r
  stays r root = by_eq r at
      (λ here. set_here new at r above within here ∙ is ∙ subst (λ k. slice_index new (slice_index new k) ≡ r) here (ap (λ k. slice_index new k) root ∙ root))
      (λ other. set_there new at r above other ∙ root)

  higher : (touch : ℕ → ℕ → Bool) → IsLinkedForest touch new → Linked touch above at
  higher touch linked = subst (λ n. Linked touch n at) (sym is) (linked_trans touch (slice_index new (slice_index new at)) (slice_index new at) at
      (linked.up (slice_index new at) (omega (arith, parent_low, within))) (linked.up at within))

  above_same : (value : ℕ → ℕ) → IsOnTrees (slice_set new at above) value → value above ≡ value at
  above_same value on = ap value (sym (set_here new at at above within refl)) ∙ on.same at (subst (λ n. at < n) (sym (length-set new at above)) within)

-- ---- two trees that are joined at their roots

join_trees : (xs : List ℕ) (low high : ℕ) → high < length xs → slice_index xs high ≡ high → IsCoarser xs (slice_set xs high low)
join_trees xs low high inside root = record {
  trees = λ value on. record {
    same = λ x lt. by_eq x high
        (λ here. ap value (ap (λ k. slice_index xs k) here ∙ root ∙ sym here))
        (λ other. ap value (sym (set_there xs high x low other)) ∙ on.same x (subst (λ n. x < n) (sym (length-set xs high low)) lt));
  };
}

join_same : (xs : List ℕ) (low high : ℕ) → high < length xs → (value : ℕ → ℕ) → IsOnTrees (slice_set xs high low) value → value low ≡ value high
join_same xs low high inside value on = ap value (sym (set_here xs high high low inside refl)) ∙ on.same high (subst (λ n. high < n) (sym (length-set xs high low)) inside)

joined_in_order : (old mid new : List ℕ) (a b first second low high : ℕ) → a < length old → b < length old
    → HasClimbed old mid a first → slice_index mid first ≡ first → HasClimbed mid new b second → slice_index new second ≡ second
    → ((low ≡ first) × (high ≡ second)) ⊎ ((low ≡ second) × (high ≡ first)) → low ≤ high → AreJoinedTrees old (slice_set new high low) a b
joined_in_order old mid new a b first second low high a_in b_in one root two root' which below = record {
  forest = moved_forest (length old) new high low forest high_in below;
  trees = record { trees = λ value on. one.trees.trees value (two.trees.trees value (joined.trees value on)) };
  linked = λ touch ab linked. moved_linked touch new high low within (roots_linked touch ab linked) (two.linked touch (one.linked touch linked));
  same = λ value on. sym (one.same value (two.trees.trees value (joined.trees value on))) ∙ roots_same value on ∙ two.same value (joined.trees value on);
} where
  forest : IsForest (length old) new
  forest = subst (λ n. IsForest n new) one.forest.each two.forest

  first_in : first < length old
  first_in = omega (arith, a_in, one.below)

  second_in : second < length old
  second_in = omega (arith, b_in, two.below)

  high_in : high < length old
  high_in = elim which [ inl w ↦ subst (λ n. n < length old) (sym w.1) second_in | inr w ↦ subst (λ n. n < length old) (sym w.1) first_in ]

  within : high < length new
  within = omega (arith, high_in, forest.each)

  first_root : slice_index new first ≡ first
  first_root = two.roots_stay first (omega (arith, first_in, one.forest.each)) root

  high_root : slice_index new high ≡ high
  high_root = elim which [ inl w ↦ subst (λ n. slice_index new n ≡ n) (sym w.1) root' | inr w ↦ subst (λ n. slice_index new n ≡ n) (sym w.1) first_root ]

  joined : IsCoarser new (slice_set new high low)
  joined = join_trees new low high within high_root

  roots_same : (value : ℕ → ℕ) → IsOnTrees (slice_set new high low) value → value first ≡ value second
  roots_same value on = elim which [
    | inl w ↦ ap value (sym w.0) ∙ join_same new low high within value on ∙ ap value w.1
    | inr w ↦ sym (ap value (sym w.0) ∙ join_same new low high within value on ∙ ap value w.1)
  ]

  roots_joined : (touch : ℕ → ℕ → Bool) → Linked touch a b → IsLinkedForest touch old → Linked touch first second
  roots_joined touch ab linked = linked_trans touch first a second (one.reached touch linked)
      (linked_trans touch a b second ab (linked_sym touch second b (two.reached touch (one.linked touch linked))))

  roots_linked : (touch : ℕ → ℕ → Bool) → Linked touch a b → IsLinkedForest touch old → Linked touch low high
  roots_linked touch ab linked = elim which [
    | inl w ↦ subst (λ n. Linked touch n high) (sym w.0) (subst (λ n. Linked touch first n) (sym w.1) (roots_joined touch ab linked))
    | inr w ↦ subst (λ n. Linked touch n high) (sym w.0) (subst (λ n. Linked touch second n) (sym w.1) (linked_sym touch first second (roots_joined touch ab linked)))
  ]

in_order : (low high first second : ℕ) → low ≡ min first second → high ≡ max first second → ((low ≡ first) × (high ≡ second)) ⊎ ((low ≡ second) × (high ≡ first))
in_order low high first second is_low is_high = elim (cases_lt first second) [
  | inl lt ↦ inl (omega (arith, is_low, lt), omega (arith, is_high, lt))
  | inr ge ↦ inr (omega (arith, is_low, ge), omega (arith, is_high, ge))
]

-- the greater of two roots is hung under the lesser
pub joined : (old mid new : List ℕ) (a b first second low high : ℕ) → a < length old → b < length old
    → HasClimbed old mid a first → slice_index mid first ≡ first → HasClimbed mid new b second → slice_index new second ≡ second
    → low ≡ min first second → high ≡ max first second → AreJoinedTrees old (slice_set new high low) a b
joined old mid new a b first second low high a_in b_in one root two root' is_low is_high =
    joined_in_order old mid new a b first second low high a_in b_in one root two root' (in_order low high first second is_low is_high) (omega (arith, is_low, is_high))
