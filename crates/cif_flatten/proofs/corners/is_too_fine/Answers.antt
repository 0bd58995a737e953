use Rattle.cif_flatten.proofs.Ranges.{too_fine}
use Rattle.cif_flatten.proofs.corners.is_too_fine.Goals as goal

pub returns : goal.returns
returns c = too_fine _ _ _ _ _ _ _ _ c.args.draws.now c.count_distinct-xs.ensures c.in_ok-all_x.ensures c.deref.ensures.value c.count_distinct-ys.ensures c.in_ok-all_y.ensures c.deref-2.ensures.value c.in_ok-points.ensures c.saturating_mul.ensures
