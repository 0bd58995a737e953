use Rattle.conflict_solver.proofs.News.{all_new}
use Rattle.conflict_solver.proofs.laws.lines_are_new.Goals as goal

pub returns : goal.returns
returns c = all_new
