use Rattle.std.proofs.Common.{arith}
use Rattle.std.specs.Ordering.{int_eq}
use Rattle.std.proofs.lemmas.List.Filters.{dedup_is}
use Rattle.cif_flatten.proofs.Distinct.{counted}
use Rattle.cif_flatten.proofs.corners.count_distinct.Goals as goal

pub returns : goal.returns
returns c = omega (arith, c.len.ensures, c.dedup.new.self.ok.0, counted _ _ _ c.sort_unstable.ensures.permutation c.sort_unstable.ensures.sorted (dedup_is int_eq _ _ c.dedup.ensures.filtered))
