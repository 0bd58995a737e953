use Rattle.std.proofs.Common.{◌+◌, ◌<◌, length, refl, sym, subst, arith}
use Rattle.std.specs.Option.{MatchOption}
use Rattle.std.proofs.lemmas.Option.{slice_get_read, slice_get-get_or}
use Rattle.layout_extract.specs.Tags.{HasNoAmbiguous, HasAmbiguousAt}
use Rattle.layout_extract.proofs.TagLists.{first_more}
use Rattle.layout_extract.proofs.tags.first_ambiguous.Goals as goal

pub loop-k-preserved : goal.loop-k-preserved
loop-k-preserved c =
    let lt = c.loop-k-test.true in
    let same = c.requires in
    let inside : c.loop-k.k < length c.args.bindings.now = omega (arith, lt, same) in
    subst (λ f. MatchOption f (HasNoAmbiguous c.args.bindings.now (c.loop-k.k + 1)) (HasAmbiguousAt c.args.marks.now c.args.bindings.now (c.loop-k.k + 1))) (sym c.first_with-first.ensures)
    (first_more c.args.marks.now c.args.bindings.now c.loop-k.k c.index-marks-k.result (slice_get_read c.args.marks.now (length c.args.marks.now) c.loop-k.k c.index-marks-k.result refl lt c.index-marks-k.is)
    c.loop-k.first _ (slice_get-get_or c.args.bindings.now c.loop-k.k _ inside) c.loop-k.invariant)
