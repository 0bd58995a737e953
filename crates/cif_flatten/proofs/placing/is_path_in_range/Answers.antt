use Rattle.std.proofs.Common.{arith, refl}
use Rattle.std.proofs.lemmas.Int.{ints}
use Rattle.cif_flatten.proofs.Ranges.{wide_more, wide_all}
use Rattle.cif_flatten.proofs.placing.is_path_in_range.Goals as goal

pub loop-p-preserved : goal.loop-p-preserved
loop-p-preserved c = wide_more _ c.args.place c.args.path.now c.loop-p.p-index _ c.loop-p-test.true c.loop-p.invariant (c.is_point_in_range.ensures.0 c.if-not-is_point_in_range.false)

pub returns : goal.returns
returns c = (λ _. wide_all _ c.args.half c.args.place c.args.path.now c.loop-p.p-index c.loop-p-test.false (omega (arith, ints)) c.loop-p.invariant, λ _. refl)
