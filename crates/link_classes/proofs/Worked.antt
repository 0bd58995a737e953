-- Worked instances of the definitions: values that are computed, relations that hold, and relations that are refused.
use Rattle.std.proofs.Common.{◌≡◌, ℕ, zero, suc, ◌<◌, ◌≤◌, inl, inr, Bool, true, false, List, [], ◌∷◌, All, slice_get, slice_index, Some, refl, sym, arith, subst}
use Rattle.std.specs.Ordering.{nat_cmp}
use Rattle.std.specs.declared.cmp.Ordering.TheVariants.{Less}
use Rattle.std.proofs.lemmas.Cmp.{ranked}
use Rattle.link_classes.specs.Linked.{Linked}
use Rattle.link_classes.specs.Numbering.{IsLeast, AreRoots, IsNumber, IsCount}
use Rattle.link_classes.specs.Classes.{has_pair, AreClasses}
use Rattle.link_classes.proofs.Chains.{linked_kept}
use Rattle.link_classes.proofs.Pairs.{pair_shared}
use Rattle.link_classes.proofs.UniqueNumbers.{some_one, no_some}

impossible : {P : Type 0} → true ≡ false → P
impossible e = let none : ⊥ = cc in absurd none

-- ---- pairs

-- of the numbers below 5: 0, 2 and 3 are linked, and 1 and 4 are alone
pairs : List (ℕ × ℕ)
pairs = (2, 0) ∷ (3, 2) ∷ []

has_the_pair : has_pair pairs 2 0 ≡ true
unfolding pairs
has_the_pair = refl

not_turned_round : has_pair pairs 0 2 ≡ false
unfolding pairs
not_turned_round = refl

no_pair_of_none : has_pair [] 0 0 ≡ false
no_pair_of_none = refl

-- ---- linked

-- a chain may pass a pair in both directions
through_two : Linked (has_pair pairs) 0 3
unfolding pairs
through_two = record { chain = 2 ∷ 3 ∷ []; leads = (inr refl, (inr refl, refl)) }

back_again : Linked (has_pair pairs) 3 0
unfolding pairs
back_again = record { chain = 2 ∷ 0 ∷ []; leads = (inl refl, (inl refl, refl)) }

-- each thing is linked to itself, by the chain of none
alone : Linked (has_pair pairs) 4 4
alone = record { chain = []; leads = refl }

-- the pairs keep 1 apart from the others
side : ℕ → ℕ
side zero = 0
side (suc zero) = 1
side (suc (suc x)) = 0

kept_apart : All (λ (p : ℕ × ℕ). side p.0 ≡ side p.1) pairs
unfolding pairs side
kept_apart zero d lt = refl
kept_apart (suc zero) d lt = refl
kept_apart (suc (suc k)) d lt = absurd (omega (arith, lt))

not_linked : Linked (has_pair pairs) 0 1 → ⊥
unfolding side
not_linked linked = omega (arith, linked_kept (has_pair pairs) side (λ a b. pair_shared pairs side a b kept_apart) 0 1 linked)

-- ---- classes, as two tables

-- of two numbers with one pair, and of two with none
one_class : AreClasses 2 (has_pair ((1, 0) ∷ [])) (0 ∷ 0 ∷ []) (0 ∷ [])
one_class = record {
  each = refl;
  shared = λ a b. pair_shared ((1, 0) ∷ []) (λ x. slice_index (0 ∷ 0 ∷ []) x) a b both;
  below = below;
  reached = reached;
  first = first;
  inside = inside;
  own = own;
  rising = λ j k less within. absurd (omega (arith, less, within));
} where
  both : All (λ (p : ℕ × ℕ). slice_index (0 ∷ 0 ∷ []) p.0 ≡ slice_index (0 ∷ 0 ∷ []) p.1) ((1, 0) ∷ [])
  both zero d lt = refl
  both (suc k) d lt = absurd (omega (arith, lt))

  below : (a : ℕ) → a < 2 → slice_index (0 ∷ 0 ∷ []) a < 1
  below zero lt = omega arith
  below (suc zero) lt = omega arith
  below (suc (suc a)) lt = absurd (omega (arith, lt))

  reached : (a : ℕ) → a < 2 → Linked (has_pair ((1, 0) ∷ [])) (slice_index (0 ∷ []) (slice_index (0 ∷ 0 ∷ []) a)) a
  reached zero lt = record { chain = []; leads = refl }
  reached (suc zero) lt = record { chain = 1 ∷ []; leads = (inr refl, refl) }
  reached (suc (suc a)) lt = absurd (omega (arith, lt))

  first : (a : ℕ) → a < 2 → slice_index (0 ∷ []) (slice_index (0 ∷ 0 ∷ []) a) ≤ a
  first zero lt = omega arith
  first (suc zero) lt = omega arith
  first (suc (suc a)) lt = absurd (omega (arith, lt))

  inside : (k : ℕ) → k < 1 → slice_index (0 ∷ []) k < 2
  inside zero lt = omega arith
  inside (suc k) lt = absurd (omega (arith, lt))

  own : (k : ℕ) → k < 1 → slice_index (0 ∷ 0 ∷ []) (slice_index (0 ∷ []) k) ≡ k
  own zero lt = refl
  own (suc k) lt = absurd (omega (arith, lt))

-- the classes are numbered by their least members
numbered_otherwise : AreClasses 2 (has_pair []) (1 ∷ 0 ∷ []) (1 ∷ 0 ∷ []) → ⊥
numbered_otherwise h = omega (arith, h.rising 0 1 (omega arith) (omega arith))

-- what touches is of one class
kept_apart_though_linked : AreClasses 2 (has_pair ((0, 1) ∷ [])) (0 ∷ 1 ∷ []) (0 ∷ 1 ∷ []) → ⊥
kept_apart_though_linked h = omega (arith, h.shared 0 1 refl)

-- what is of one class is linked
joined_though_apart : AreClasses 2 (has_pair []) (0 ∷ 0 ∷ []) (0 ∷ []) → ⊥
unfolding side
joined_though_apart h = omega (arith, linked_kept (has_pair []) side (λ a b has. impossible (sym has)) 0 1 (h.reached 1 (omega arith)))

-- ---- least members and numbers

-- the things are 0, 2 and 3, and all of them are linked
is_thing : ℕ → Bool
is_thing zero = true
is_thing (suc zero) = false
is_thing (suc (suc zero)) = true
is_thing (suc (suc (suc zero))) = true
is_thing (suc (suc (suc (suc x)))) = false

nothing_before_0 : (b : ℕ) → nat_cmp b 0 ≡ Less → ⊥
nothing_before_0 b less = let lt : b < 0 = ranked b 0 Less (sym less) in omega (arith, lt)

least_of_three : IsLeast nat_cmp is_thing (has_pair pairs) 0
unfolding is_thing
least_of_three = record { thing = refl; least = λ b linked less. nothing_before_0 b less }

not_the_least : IsLeast nat_cmp is_thing (has_pair pairs) 3 → ⊥
not_the_least h = h.least 0 back_again refl

no_thing : IsLeast nat_cmp is_thing (has_pair pairs) 1 → ⊥
unfolding is_thing
no_thing h = impossible (sym h.thing)

no_number : (n : ℕ) → IsNumber nat_cmp is_thing (has_pair pairs) 4 n → ⊥
unfolding is_thing
no_number n h = impossible (sym h.thing)

the_roots : AreRoots nat_cmp is_thing (has_pair pairs) (0 ∷ [])
unfolding is_thing pairs
the_roots = record { least = least; every = every; rising = rising } where
  least : (k r : ℕ) → slice_get (0 ∷ []) k ≡ Some r → IsLeast nat_cmp is_thing (has_pair pairs) r
  least zero r at = subst (λ x. IsLeast nat_cmp is_thing (has_pair pairs) x) (some_one 0 r at) least_of_three
  least (suc k) r at = no_some r at

  every : (a : ℕ) → is_thing a ≡ true → (k r : ℕ) × (slice_get (0 ∷ []) k ≡ Some r) × Linked (has_pair pairs) a r
  every zero is = (0, 0, refl, record { chain = []; leads = refl })
  every (suc zero) is = impossible (sym is)
  every (suc (suc zero)) is = (0, 0, refl, record { chain = 0 ∷ []; leads = (inl refl, refl) })
  every (suc (suc (suc zero))) is = (0, 0, refl, back_again)
  every (suc (suc (suc (suc a)))) is = impossible (sym is)

  rising : (j k q r : ℕ) → j < k → slice_get (0 ∷ []) j ≡ Some q → slice_get (0 ∷ []) k ≡ Some r → nat_cmp q r ≡ Less
  rising j zero q r less at_j at_k = absurd (omega (arith, less))
  rising j (suc k) q r less at_j at_k = no_some r at_k

number_of_3 : IsNumber nat_cmp is_thing (has_pair pairs) 3 0
unfolding is_thing
number_of_3 = record { roots = 0 ∷ []; are = the_roots; root = 0; at = refl; thing = refl; linked = back_again }

one_class_in_all : IsCount nat_cmp is_thing (has_pair pairs) 1
one_class_in_all = record { roots = 0 ∷ []; are = the_roots; is = refl }

-- a greater member of the class is no root
two_roots_of_one_class : AreRoots nat_cmp is_thing (has_pair pairs) (0 ∷ 3 ∷ []) → ⊥
two_roots_of_one_class h = not_the_least (h.least 1 3 refl)

-- nor may a class be left out
a_class_without_root : AreRoots nat_cmp is_thing (has_pair pairs) [] → ⊥
unfolding is_thing
a_class_without_root h = let (k, r, at, linked) = h.every 0 refl in no_some r at
