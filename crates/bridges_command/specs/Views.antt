-- What the code's values are seen as.
use Rattle.std.specs.Prelude.{ℕ}
use Rattle.command_inputs.specs.Views.{mapped}
use Rattle.bridges_command.specs.declared.command.Subject as command
use Rattle.bridges_command.specs.Report.{Tallies}
use Rattle.bridges_command.specs.Command.{Subject}

abbrev pub subject_of : command.Subject → Subject
subject_of s = record { sides = s.sides.items; mapped = mapped s.mapped; ranked = s.ranked.items }

abbrev pub tallied : ℕ × ℕ × ℕ → Tallies
tallied numbers = record { bound = numbers.0; unbound = numbers.1; deep = numbers.2 }
