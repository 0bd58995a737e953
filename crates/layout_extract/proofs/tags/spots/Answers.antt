use Rattle.std.proofs.Common.{◌<◌, ◌∙◌, length, refl, ap, Some, arith}
use Rattle.std.proofs.lemmas.Option.{slice_get_read, slice_get-get_or}
use Rattle.layout_extract.proofs.TagLists.{spots_same, spots_more}
use Rattle.layout_extract.proofs.tags.spots.Goals.{in-Bound+in_ok-push, in_default}
use Rattle.layout_extract.proofs.tags.spots.Goals as goal

pub loop-k-preserved : goal.loop-k-preserved
loop-k-preserved c =
    let lt = c.loop-k-test.true in
    let same = c.requires in
    let inside : c.loop-k.k < length c.args.bindings.now = omega (arith, lt, same) in
    let at = slice_get_read c.args.marks.now (length c.args.marks.now) c.loop-k.k c.index-marks-k.result refl lt c.index-marks-k.is in
    elim c.match-bindings-k.branch [
      | in-Bound+in_ok-push w ↦ rw (w.spots-is, w.in_ok-push.ensures.items)
          (spots_more c.args.marks.now c.args.bindings.now c.loop-k.k c.index-marks-k.result at c.loop-k.spots.items _
          (slice_get-get_or c.args.bindings.now c.loop-k.k _ inside ∙ ap (λ b. Some b) w.in-Bound.is) refl c.loop-k.invariant)
      | in_default w ↦ rw w.spots-is
          (spots_same c.args.marks.now c.args.bindings.now c.loop-k.k c.index-marks-k.result at c.loop-k.spots.items _ (slice_get-get_or c.args.bindings.now c.loop-k.k _ inside) w.in_default.not-Bound c.loop-k.invariant)
    ]
