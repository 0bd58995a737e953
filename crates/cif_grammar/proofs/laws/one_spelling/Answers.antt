use Rattle.cif_grammar.proofs.Walking.{one_spelling as one_list, longest_one, spells_longest}
use Rattle.cif_grammar.proofs.laws.one_spelling.Goals as goal

pub returns-clause-commands : goal.returns-clause-commands
returns-clause-commands c = one_list

pub returns-clause-longest : goal.returns-clause-longest
returns-clause-longest c = longest_one

pub returns-clause-end : goal.returns-clause-end
returns-clause-end c = spells_longest
