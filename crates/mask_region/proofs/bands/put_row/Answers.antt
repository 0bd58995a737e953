use Rattle.std.proofs.Common.{rules, arith, w32, FitsSigned, ◌+◌, refl}
use Rattle.std.proofs.lemmas.Int.{ints, to_z-of_z}
use Rattle.mask_region.specs.Rows.{end_at}
use Rattle.mask_region.proofs.Putting.{put_more, put_passed}
use Rattle.mask_region.proofs.bands.put_row.Goals as goal

pub loop-k-preserved : goal.loop-k-preserved
loop-k-preserved c =
    let low : FitsSigned w32 c.args.y0 = c.ranges.y0 in
    let high : FitsSigned w32 c.args.y1 = c.ranges.y1 in
    let left : FitsSigned w32 (end_at c.args.row.now c.loop-k.k) = search rules in
    let right : FitsSigned w32 (end_at c.args.row.now (c.loop-k.k + 1)) = search rules in
    let items = simp to_z-of_z at c.in_ok-push.ensures.items in
    simp (to_z-of_z, items)
    (put_more c.args.out.now.items c.args.row.now c.loop-k.k c.args.y0 c.args.y1 c.loop-k.out.items _ c.requires.row (omega (arith, ints)) (c.requires.low (omega (arith, c.loop-k-test.true))) c.requires.high c.loop-k-test.true
    refl refl refl refl (simp to_z-of_z at c.loop-k.invariant))

pub returns-clause-passed : goal.returns-clause-passed
returns-clause-passed c le =
    let low : FitsSigned w32 c.args.y0 = c.ranges.y0 in
    let high : FitsSigned w32 c.args.y1 = c.ranges.y1 in
    put_passed c.args.out.now.items c.args.row.now c.loop-k.k c.args.y0 c.args.y1 c.loop-k.out.items le (simp to_z-of_z at c.loop-k.invariant)
