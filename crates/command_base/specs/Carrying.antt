-- The stop of a call for a refusal, where there is one; else no memory was found.
use Rattle.std.specs.Prelude.{Option, Some, None}
use Rattle.command_base.specs.declared.endings.Stop.{Stop}
use Rattle.command_base.specs.declared.endings.Stop.TheVariants.{Refused, NoMemory}

abbrev pub stop_for : {R : Type 0} → Option R → Stop R
stop_for (Some refusal) = Refused refusal
stop_for None = NoMemory
