use Rattle.std.proofs.Common.{sym, subst}
use Rattle.mask_region.specs.Strips.{Banded}
use Rattle.device_extract.specs.Channels.{IsLeastIn}
use Rattle.device_extract.proofs.Gating.{least_corner}
use Rattle.device_extract.proofs.gates.least_cell.Goals as goal

pub returns : goal.returns
returns c =
    subst (λ l. IsLeastIn l c.corner_of.result) c.strips.ensures.same
    (least_corner c.strips.result.now c.in_ok-strip.strip.now (subst Banded (sym c.strips.ensures.same) c.strips.ensures.banded) (sym c.in_ok-strip.ensures.value) c.corner_of.result c.corner_of.ensures.x c.corner_of.ensures.y)
