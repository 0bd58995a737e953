use Rattle.std.proofs.Common.{ap, sym, ◌∙◌}
use Rattle.std.specs.Cmp.Rules.{signed_items}
use Rattle.plane_geom.specs.Ends.{flips}
use Rattle.mask_region.proofs.bands.hold.Goals as goal

pub returns-then-eq-clause-now : goal.returns-then-eq-clause-now
returns-then-eq-clause-now c x =
    ap (λ ends. flips ends x) (sym c.as_slice.ensures.value ∙ (signed_items _ _).0 (sym c.eq.ensures ∙ c.if-eq.true) ∙ c.as_slice-2.ensures.value)
