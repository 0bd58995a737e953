use Rattle.std.proofs.Common.{◌<◌, length, refl, sym, ap, subst, Some, None}
use Rattle.std.specs.Option.{option_copied}
use Rattle.std.proofs.lemmas.Option.{slice_get_read}
use Rattle.layout_extract.specs.declared.tags.Tag.{Tag}
use Rattle.layout_extract.proofs.LeastNames.{least_set, size_set}
use Rattle.layout_extract.proofs.names.least_names.Goals as goal

pub loop-tag-preserved : goal.loop-tag-preserved
loop-tag-preserved c =
    let t = c.tag-item.result in
    let lt = c.loop-tag-test.true in
    let at = slice_get_read c.args.tags.now (length c.args.tags.now) c.loop-tag.tag-index t refl lt c.tag-item.is in
    let size = c.loop-tag.invariant.0 in
    let below : t.net.0 < c.args.count = subst (λ (u : Tag). u.net.0 < c.args.count) (sym c.tag-item.is) (c.requires c.loop-tag.tag-index t lt) in
    let at_old = slice_get_read c.loop-tag.least.items c.args.count t.net.0 c.index.result.now (sym size) below c.index.ensures in (
      size_set c.loop-tag.least.items t.net.0 (Some c.lesser_name.result) c.args.count size,
      least_set option_copied c.args.tags.now c.loop-tag.tag-index t at c.loop-tag.least.items None c.index.result.now (Some c.lesser_name.result) c.args.count size below at_old
          (ap (λ x. Some x) c.lesser_name.ensures) c.loop-tag.invariant.1,
    )
