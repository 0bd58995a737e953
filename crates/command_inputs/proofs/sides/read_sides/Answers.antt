use Rattle.std.proofs.Common.{sym, subst}
use Rattle.command_base.proofs.Judging.{spelled_stops}
use Rattle.command_inputs.specs.Sides.{SpellsSides}
use Rattle.command_inputs.proofs.sides.read_sides.Goals as goal

pub returns-in-Ok-None-clause-judges : goal.returns-in-Ok-None-clause-judges
returns-in-Ok-None-clause-judges c shelf = spelled_stops
    (λ sides spells. (rw c.in-Ok-None.field-0-is at c.in-Ok-None.ensures.none) sides (subst (λ word. SpellsSides word sides) (sym c.as_str.ensures) spells))
