use Rattle.std.proofs.Common.{rules, arith, w32, FitsSigned, drop, refl}
use Rattle.std.proofs.lemmas.Int.{ints, to_z-of_z}
use Rattle.mask_region.proofs.Banding.{strip_at, banded-drop, row_start, row_step, row_above, row_last}
use Rattle.mask_region.proofs.bands.read_row.Goals as goal

pub loop-k-init : goal.loop-k-init
loop-k-init c =
    let f : FitsSigned w32 c.args.y = c.ranges.y in
    simp (to_z-of_z, c.clear.ensures.items)
    (row_start (drop c.args.i c.args.strips.now) c.args.y (banded-drop c.args.i c.args.strips.now c.requires.banded.each) c.requires.ahead)

pub returns-then-strip-y : goal.returns-then-strip-y
returns-then-strip-y c =
    let f : FitsSigned w32 c.args.y = c.ranges.y in
    row_above c.args.strips.now c.loop-k.k (drop c.args.i c.args.strips.now) c.args.y c.loop-k.ends.items c.loop-k-test.true
    (simp to_z-of_z at c.loop-k.invariant) (omega (arith, ints))

pub loop-k-preserved : goal.loop-k-preserved
loop-k-preserved c =
    let f : FitsSigned w32 c.args.y = c.ranges.y in
    let left : FitsSigned w32 (strip_at c.args.strips.now c.loop-k.k).x0 = search rules in
    let right : FitsSigned w32 (strip_at c.args.strips.now c.loop-k.k).x1 = search rules in
    let first = simp to_z-of_z at c.in_ok-push.ensures.items in
    let second = simp to_z-of_z at c.in_ok-push-2.ensures.items in
    simp to_z-of_z
    (row_step c.args.strips.now c.loop-k.k (drop c.args.i c.args.strips.now) c.args.y c.loop-k.ends.items _ c.loop-k-test.true
    (simp to_z-of_z at c.loop-k.invariant) (omega (arith, ints)) (rw (second, first) refl))

pub returns : goal.returns
returns c =
    let f : FitsSigned w32 c.args.y = c.ranges.y in
    row_last c.args.strips.now c.loop-k.k (drop c.args.i c.args.strips.now) c.args.y c.loop-k.ends.items c.loop-k-test.false
    (simp to_z-of_z at c.loop-k.invariant)
