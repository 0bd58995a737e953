-- What the code's values are seen as.
use Rattle.solve_command.specs.declared.command.Search as command
use Rattle.solve_command.specs.Search.{Search}

abbrev pub searched : command.Search → Search
searched s = record { formula = s.formula; budget = s.budget }
