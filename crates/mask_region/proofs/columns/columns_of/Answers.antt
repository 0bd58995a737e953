use Rattle.std.proofs.Common.{rules, sym, arith, w32, FitsSigned, take, to_z}
use Rattle.std.proofs.lemmas.Int.{ints, to_z-of_z}
use Rattle.std.proofs.lemmas.List.{take_all}
use Rattle.std.proofs.lemmas.List.Elements.{All-same}
use Rattle.mask_region.specs.Columns.{IsInColumns}
use Rattle.mask_region.proofs.Banding.{strip_at}
use Rattle.mask_region.proofs.Clipping.{columns_more}
use Rattle.mask_region.proofs.columns.columns_of.Goals as goal

pub loop-strip-preserved : goal.loop-strip-preserved
loop-strip-preserved c =
    let x0 : FitsSigned w32 (strip_at c.args.strips.now c.loop-strip.strip-index).x0 = search rules in
    let x1 : FitsSigned w32 (strip_at c.args.strips.now c.loop-strip.strip-index).x1 = search rules in
    let l : FitsSigned w32 c.lesser-left.result = search rules in
    let r : FitsSigned w32 c.greater-right.result = search rules in
    simp to_z-of_z
    (columns_more c.args.strips.now c.loop-strip.strip-index (to_z w32 c.loop-strip.left-bits) (to_z w32 c.loop-strip.right-bits) c.lesser-left.result c.greater-right.result c.loop-strip-test.true
    (omega (arith, ints, c.lesser-left.ensures.first)) (omega (arith, ints, c.greater-right.ensures.first))
    (omega (arith, ints, c.lesser-left.ensures.second)) (omega (arith, ints, c.greater-right.ensures.second)) c.loop-strip.invariant)

pub returns : goal.returns
returns c =
    All-same (IsInColumns (to_z w32 c.loop-strip.left-bits) (to_z w32 c.loop-strip.right-bits)) c.args.strips.now (take c.loop-strip.strip-index c.args.strips.now)
    (sym (take_all c.loop-strip.strip-index c.args.strips.now c.loop-strip-test.false)) c.loop-strip.invariant
