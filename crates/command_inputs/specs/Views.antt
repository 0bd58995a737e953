-- What the code's values are seen as.
use Rattle.command_inputs.specs.declared.files.MappedNets as files
use Rattle.command_inputs.specs.Stages.{MappedNets}

abbrev pub mapped : files.MappedNets → MappedNets
mapped m = record { plan = m.map; named = m.named }
