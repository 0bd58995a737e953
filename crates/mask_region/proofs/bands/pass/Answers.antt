use Rattle.std.proofs.Common.{arith, w32, FitsSigned}
use Rattle.std.proofs.lemmas.Int.{ints, to_z-of_z}
use Rattle.mask_region.proofs.Banding.{ahead_from}
use Rattle.mask_region.proofs.bands.pass.Goals as goal

pub returns-then-strips-k : goal.returns-then-strips-k
returns-then-strips-k c =
    let f : FitsSigned w32 c.args.y = c.ranges.y in
    record {
      in_range = omega arith;
      passed = simp to_z-of_z at c.loop-k.invariant;
      ahead = ahead_from c.args.strips.now c.loop-k.k c.args.y c.loop-k-test.true c.requires.banded (omega (arith, ints));
    }
