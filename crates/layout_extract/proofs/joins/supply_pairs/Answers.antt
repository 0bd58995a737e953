use Rattle.std.proofs.Common.{◌∙◌, length}
use Rattle.layout_extract.specs.Tags.{AreChained, AreJoins, are_among}
use Rattle.layout_extract.proofs.Places.{ok_weaker}
use Rattle.layout_extract.proofs.PairLists.{supply_of}
use Rattle.layout_extract.proofs.joins.supply_pairs.Goals as goal

pub returns : goal.returns
returns c = ok_weaker (λ v. AreChained c.as_slice.result.now (length c.as_slice.result.now) v.items) (λ v. AreJoins (are_among c.args.names.now) c.args.tags.now v.items)
    (λ v h. supply_of c.args.names.now c.as_slice.result.now c.args.tags.now v.items (c.as_slice.ensures.value ∙ c.in_ok-nets.ensures) h) c.chained.result c.chained.ensures
