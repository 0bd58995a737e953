use Rattle.std.proofs.Common.{refl, ◌∙◌}
use Rattle.layout_extract.specs.Tags.{IsKept}
use Rattle.layout_extract.proofs.Places.{zip_more, zip_whole}
use Rattle.layout_extract.proofs.names.kept.Goals as goal

pub loop-tag-preserved : goal.loop-tag-preserved
loop-tag-preserved c = rw c.in_ok-push.ensures.items
    (zip_more IsKept c.args.tags.now c.loop-tag.kept.items c.loop-tag.tag-index c.tag-item.result _ c.loop-tag-test.true c.tag-item.is c.loop-tag.invariant (record { net = refl; name = c.in_ok-name.ensures ∙ c.as_bytes.ensures }))

pub returns : goal.returns
returns c = zip_whole IsKept c.args.tags.now c.loop-tag.kept.items c.loop-tag.tag-index c.loop-tag-test.false c.loop-tag.invariant
