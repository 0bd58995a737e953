use Rattle.cif_grammar.proofs.Exact.{one_command}
use Rattle.cif_grammar.proofs.laws.one_command.Goals as goal

pub returns : goal.returns
returns c = one_command
