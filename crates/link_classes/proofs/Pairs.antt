-- Pairs as a relation of touching, and the classes that trees make of them.
use Rattle.std.proofs.Common.{◌≡◌, ℕ, ◌<◌, ◌==◌, true, ◌&&◌, List, length, get_or, refl, sym, ap, ◌∙◌, subst, slice_index}
use Rattle.std.specs.List.{All}
use Rattle.std.proofs.lemmas.Bool.{and_parts, eqb-true, and_from, eq-eqb}
use Rattle.std.proofs.lemmas.List.Folds.{Any-from_list_any, list_any_at}
use Rattle.link_classes.specs.Classes.{has_pair, AreClasses}
use Rattle.link_classes.specs.Forest.{IsForest, IsOnTrees, IsLinkedForest, AreNumberedTrees}

same_of : (value : ℕ → ℕ) (p : ℕ × ℕ) (a b : ℕ) → value p.0 ≡ value p.1 → (p.0 == a && p.1 == b) ≡ true → value a ≡ value b
same_of value p a b same pass =
    let (first, second) = and_parts (p.0 == a) (p.1 == b) pass in
    ap value (sym (eqb-true p.0 a first)) ∙ same ∙ ap value (eqb-true p.1 b second)

-- what is so of each pair of a list is so of whatever the list has as a pair
pub pair_shared : (pairs : List (ℕ × ℕ)) (value : ℕ → ℕ) (a b : ℕ) → All (λ p. value p.0 ≡ value p.1) pairs → has_pair pairs a b ≡ true → value a ≡ value b
pair_shared pairs value a b all has =
    let (k, p, lt, is, pass) = Any-from_list_any (λ (p : ℕ × ℕ). p.0 == a && p.1 == b) pairs has in
    same_of value p a b (subst (λ (q : ℕ × ℕ). value q.0 ≡ value q.1) is (all k p lt)) pass

pub classes_are : (size : ℕ) (parents : List ℕ) (pairs : List (ℕ × ℕ)) (label least : List ℕ) → IsForest size parents
    → ((value : ℕ → ℕ) → IsOnTrees parents value → All (λ p. value p.0 ≡ value p.1) pairs) → IsLinkedForest (has_pair pairs) parents
    → length label ≡ length parents → AreNumberedTrees parents label least → AreClasses size (has_pair pairs) label least
classes_are size parents pairs label least forest joined linked each h = record {
  each = sized;
  shared = λ a b has. pair_shared pairs (λ x. slice_index label x) a b (joined (λ x. slice_index label x) on) has;
  below = λ a lt. h.below a (within a lt);
  reached = λ a lt. h.reached (has_pair pairs) linked a (within a lt);
  first = λ a lt. h.first a (within a lt);
  inside = λ k lt. subst (λ n. slice_index least k < n) sized (h.inside k lt);
  own = h.own;
  rising = h.rising;
} where
  sized : length label ≡ size
  sized = each ∙ forest.each

  within : (a : ℕ) → a < size → a < length label
  within a lt = subst (λ n. a < n) (sym sized) lt

  on : IsOnTrees parents (λ x. slice_index label x)
  on = record { same = λ x lt. h.same x (subst (λ n. x < n) (sym each) lt) }

-- a list has each of its pairs
pub has_own : (pairs : List (ℕ × ℕ)) (k : ℕ) (d : ℕ × ℕ) → k < length pairs → has_pair pairs (get_or pairs k d).0 (get_or pairs k d).1 ≡ true
has_own pairs k d lt =
    let p : ℕ × ℕ = get_or pairs k d in
    list_any_at (λ (q : ℕ × ℕ). q.0 == p.0 && q.1 == p.1) pairs k d lt (and_from (p.0 == p.0) (p.1 == p.1) (eq-eqb p.0 p.0 refl) (eq-eqb p.1 p.1 refl))
