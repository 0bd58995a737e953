use Rattle.command_inputs.proofs.SideLemmas.{one_word, printed}
use Rattle.command_inputs.proofs.laws.one_list_of_sides.Goals as goal

pub returns-clause-one : goal.returns-clause-one
returns-clause-one c = one_word

pub returns-clause-printed : goal.returns-clause-printed
returns-clause-printed c = printed
