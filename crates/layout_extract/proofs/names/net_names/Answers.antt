use Rattle.std.proofs.Common.{sym, subst, ◌<◌, All}
use Rattle.layout_extract.specs.declared.tags.Tag.{Tag}
use Rattle.layout_extract.proofs.SpotLists.{tags_below}
use Rattle.layout_extract.proofs.names.net_names.Goals as goal

pub named-requires : goal.named-requires
named-requires c = subst (λ ts. All (λ (t : Tag). t.net.0 < c.count.result) ts) (sym c.as_slice.ensures.value) (tags_below c.args.traced.now c.args.spots.now c.in_ok-tags.tags.items c.count.result c.in_ok-tags.ensures c.count.ensures.is)
