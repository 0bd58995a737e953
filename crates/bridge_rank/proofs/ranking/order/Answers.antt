use Rattle.std.proofs.Common.{rules, subst}
use Rattle.std.specs.Prelude.{IsPermutation}
use Rattle.std.specs.Ordering.{is_lt}
use Rattle.std.proofs.lemmas.List.Sorted.{ranks_by, answers_always}
use Rattle.bridge_rank.specs.Ranking.{rank_order}
use Rattle.bridge_rank.proofs.Ranks.{rank_order_total}
use Rattle.bridge_rank.proofs.ranking.order.Goals as goal

pub returns : goal.returns
returns c =
    record {
      same = subst (λ counts. IsPermutation counts c.sort_unstable_by.new.self.items) c.into_list-ranked.ensures c.sort_unstable_by.ensures.permutation;
      order = c.sort_unstable_by.ensures.sorted (λ p q. is_lt (rank_order p q)) (ranks_by rank_order_total (λ p. p)) (answers_always _ _ _ (λ f a r g h. search rules));
    }
