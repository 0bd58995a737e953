use Rattle.std.proofs.Common.{◌-◌, ◌<◌, length, refl, sym, ◌∙◌, arith}
use Rattle.std.proofs.lemmas.Bool.{both_ways}
use Rattle.std.proofs.lemmas.Option.{slice_get_read}
use Rattle.std.proofs.lemmas.Slice.Eq.{bytes_eq-Decides}
use Rattle.std.specs.Str.{bytes_eq}
use Rattle.layout_extract.proofs.PairLists.{adjacent_more, adjacent_same, adjacent_joins, adjacent_whole}
use Rattle.layout_extract.proofs.joins.adjacent_pairs.Goals.{then-have_one_name+in_ok-push, else-have_one_name}
use Rattle.layout_extract.proofs.joins.adjacent_pairs.Goals as goal

pub loop-k-preserved : goal.loop-k-preserved
loop-k-preserved c =
    let lt = c.loop-k-test.true in
    let some = c.loop-k.auto.k in
    let low : c.loop-k.k - 1 < length c.args.tags.now = omega (arith, lt, some) in
    let s = c.index-tags-k.result in
    let t = c.index-tags-k-in-loop-k.result in
    let before = slice_get_read c.args.tags.now (length c.args.tags.now) (c.loop-k.k - 1) s refl low c.index-tags-k.is in
    let at = slice_get_read c.args.tags.now (length c.args.tags.now) c.loop-k.k t refl lt c.index-tags-k-in-loop-k.is in
    elim c.if-have_one_name.branch [
      | then-have_one_name+in_ok-push w ↦ rw (w.pairs-is, w.in_ok-push.ensures.items)
          (adjacent_more c.args.tags.now c.loop-k.pairs.items c.loop-k.k s t some before at c.loop-k.invariant ((bytes_eq-Decides s.name.now t.name.now).0 (sym c.have_one_name.ensures ∙ w.if-have_one_name.true)))
      | else-have_one_name w ↦ rw w.pairs-is
          (adjacent_same c.args.tags.now c.loop-k.pairs.items c.loop-k.k s t some before at c.loop-k.invariant
          (λ same. both_ways (bytes_eq s.name.now t.name.now) (sym c.have_one_name.ensures ∙ w.if-have_one_name.false) ((bytes_eq-Decides s.name.now t.name.now).1 same)))
    ]

pub returns : goal.returns
returns c = adjacent_joins c.args.tags.now c.requires c.loop-k.pairs.items (adjacent_whole c.args.tags.now c.loop-k.pairs.items c.loop-k.k c.loop-k-test.false c.loop-k.invariant)
