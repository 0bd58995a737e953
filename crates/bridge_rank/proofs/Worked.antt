-- Worked instances of the definitions: values that are computed, relations that hold, and relations that are refused.
use Rattle.std.proofs.Common.{◌≡◌, ℕ, zero, suc, true, false, List, [], ◌∷◌, refl, arith}
use Rattle.std.specs.Prelude.{IsSorted}
use Rattle.std.proofs.lemmas.List.Sorted.{length_permutation}
use Rattle.std.specs.declared.cmp.Ordering.TheVariants.{Less, Equal, Greater}
use Rattle.defect_sweep.specs.Counting.{BridgeCount, pair_of}
use Rattle.bridge_rank.specs.Ranking.{rank_order, IsRanked}

count : ℕ → ℕ → ℕ → BridgeCount
count a b total = record { pair = pair_of a b; total = total; on = [] }

-- ---- the order

larger_first : rank_order (count 5 6 10) (count 0 1 9) ≡ Less
unfolding count
larger_first = refl

smaller_behind : rank_order (count 0 1 9) (count 5 6 10) ≡ Greater
unfolding count
smaller_behind = refl

ties_by_first_net : rank_order (count 0 9 7) (count 1 2 7) ≡ Less
unfolding count
ties_by_first_net = refl

ties_by_second_net : rank_order (count 1 3 7) (count 1 2 7) ≡ Greater
unfolding count
ties_by_second_net = refl

same_rank : rank_order (count 1 2 7) (count 1 2 7) ≡ Equal
unfolding count
same_rank = refl

-- ---- ranked lists

nothing_ranked : IsRanked [] []
nothing_ranked = record { same = record { moves = []; below = tt; is = refl }; order = λ k d low high. absurd (omega (arith, high)) }

-- the two change places
two_ranked : IsRanked (count 0 1 9 ∷ count 5 6 10 ∷ []) (count 5 6 10 ∷ count 0 1 9 ∷ [])
unfolding count
two_ranked = record { same = record { moves = (0, 1) ∷ []; below = (omega arith, omega arith, tt); is = refl }; order = rises } where
  rises : IsSorted rank_order (count 5 6 10 ∷ count 0 1 9 ∷ [])
  rises zero d low high = refl
  rises (suc k) d low high = absurd (omega (arith, high))

smaller_first : (counts : List BridgeCount) → IsRanked counts (count 0 1 9 ∷ count 5 6 10 ∷ []) → ⊥
unfolding count
smaller_first counts h = let less : true ≡ false = h.order 0 (count 0 1 9) (omega arith) (omega arith) in cc

one_left_out : IsRanked (count 0 1 9 ∷ []) [] → ⊥
unfolding count
one_left_out h = omega (arith, length_permutation (count 0 1 9 ∷ []) [] h.same)
