use Rattle.std.proofs.Common.{◌∙◌, ◌++◌, sym, ap, subst}
use Rattle.std.specs.Prelude.{IsPermutation}
use Rattle.layout_extract.proofs.PairLists.{all_joins}
use Rattle.layout_extract.proofs.joins.joins.Goals as goal

pub returns : goal.returns
returns c =
    all_joins c.args.map.now c.args.tags.now c.as_slice.result.now c.high.result.now c.low.result.now c.in_ok-pairs.pairs.items c.in_ok-high.high.items c.in_ok-low.low.items c.extend_from_slice.new.self.items c.extend_from_slice-2.new.self.items
    c.high.ensures c.low.ensures (subst (λ x. IsPermutation c.args.tags.now x) (sym c.as_slice.ensures.value) c.in_ok-sorted.ensures.same) c.in_ok-pairs.ensures c.in_ok-high.ensures c.in_ok-low.ensures
    (c.in_ok-extend_from_slice.ensures.items ∙ ap (λ x. c.in_ok-pairs.pairs.items ++ x) c.as_slice-2.ensures.value)
    (c.in_ok-extend_from_slice-2.ensures.items ∙ ap (λ x. c.extend_from_slice.new.self.items ++ x) c.as_slice-3.ensures.value)
