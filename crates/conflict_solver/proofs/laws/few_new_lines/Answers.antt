use Rattle.conflict_solver.proofs.Counting.{few_lines}
use Rattle.conflict_solver.proofs.laws.few_new_lines.Goals as goal

pub returns : goal.returns
returns c = few_lines
