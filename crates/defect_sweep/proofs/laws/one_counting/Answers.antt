use Rattle.defect_sweep.proofs.OneCounting.{one_counting, many}
use Rattle.defect_sweep.proofs.laws.one_counting.Goals as goal

pub returns-clause-counts : goal.returns-clause-counts
returns-clause-counts c nets sides counts others first second = one_counting nets sides counts others first second

pub returns-clause-many : goal.returns-clause-many
returns-clause-many c nets sides counts are more = many nets sides counts are more
