use Rattle.std.proofs.Common.{arith, refl}
use Rattle.std.proofs.lemmas.Int.{ints}
use Rattle.cif_flatten.proofs.Ranges.{in_range_near, wide_same}
use Rattle.cif_flatten.proofs.placing.is_point_in_range.Goals as goal

pub is_wide_in_range-requires-clause-point : goal.is_wide_in_range-requires-clause-point
is_wide_in_range-requires-clause-point c = in_range_near _ _ c.in-Some.ensures.value (c.in-Some.ensures.within.0 refl)

pub returns-in-Some : goal.returns-in-Some
returns-in-Some c = wide_same _ _ _ _ (omega (arith, ints)) c.in-Some.ensures.value c.is_wide_in_range.ensures
