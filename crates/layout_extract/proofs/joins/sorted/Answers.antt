use Rattle.std.proofs.Common.{rules}
use Rattle.std.specs.Ordering.{is_lt}
use Rattle.std.proofs.lemmas.Cmp.{nat_list_cmp_total}
use Rattle.std.proofs.lemmas.List.Sorted.{ranks_by, answers_always}
use Rattle.layout_extract.specs.declared.tags.Tag.{Tag}
use Rattle.layout_extract.specs.Tags.{name_order}
use Rattle.layout_extract.proofs.joins.sorted.Goals as goal

pub returns-clause-order : goal.returns-clause-order
returns-clause-order c = c.sort_unstable_by.ensures.sorted (λ x y. is_lt (name_order x y)) (ranks_by nat_list_cmp_total (λ (t : Tag). t.name.now)) (answers_always _ _ _ (λ f a r g h. search rules))
