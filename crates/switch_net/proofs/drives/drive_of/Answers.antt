use Rattle.std.proofs.Common.{sym, ◌∙◌, ap, subst}
use Rattle.switch_net.specs.Switches.{value}
use Rattle.switch_net.specs.Spreads.{IsFlooded}
use Rattle.switch_net.proofs.Driving.{drive_of_net}
use Rattle.switch_net.proofs.drives.drive_of.Goals as goal

pub returns-clause-drive : goal.returns-clause-drive
returns-clause-drive c =
    drive_of_net c.args.parts.now (value c.args.values.now) c.args.net.0 c.as_slice-marks.result.now c.parts.inside.high.0 c.parts.inside.low.0 c.drive_by.result
    (ap (λ parts. parts.high) c.parts.view_is) (ap (λ parts. parts.low) c.parts.view_is) c.if-eq.ensures c.if-eq-2.ensures
    (subst (IsFlooded c.args.parts.now (value c.args.values.now) c.args.net.0) (sym c.as_slice-marks.ensures.value) c.flood.ensures.flooded)
    (c.drive_by.ensures.high ∙ c.has_step.ensures) (c.drive_by.ensures.low ∙ c.has_step-2.ensures)
