use Rattle.std.proofs.Common.{arith}
use Rattle.std.proofs.lemmas.Int.{ints}
use Rattle.cif_flatten.proofs.Ranges.{wide_at}
use Rattle.cif_flatten.proofs.placing.is_wide_in_range.Goals as goal

pub returns-then-is_wide_at : goal.returns-then-is_wide_at
returns-then-is_wide_at c = (
  λ h. record {
    x = wide_at _ _ _ _ (omega (arith, ints)) (omega (arith, ints)) (c.is_wide_at.ensures.0 c.if-is_wide_at.true);
    y = wide_at _ _ _ _ (omega (arith, ints)) (omega (arith, ints)) (c.is_wide_at-then-is_wide_at.ensures.0 h);
  },
  λ w. c.is_wide_at-then-is_wide_at.ensures.1 (wide_at _ _ _ _ (omega (arith, ints)) (omega (arith, ints)) w.y),
)
