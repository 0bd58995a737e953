use Rattle.std.proofs.Common.{arith}
use Rattle.std.proofs.lemmas.Int.{ints}
use Rattle.cif_flatten.proofs.Ranges.{yes_case}
use Rattle.cif_flatten.proofs.placing.is_wide_at.Goals as goal

pub returns-then-z-half : goal.returns-then-z-half
returns-then-z-half c = (λ h. record { low = omega (arith, ints, c.if-z-half.true); high = omega (arith, ints, h) }, λ w. yes_case _ (λ e. omega (arith, ints, e, w.high)))
