use Rattle.carafe_core.proofs.CommandsExact.{job_exact}
use Rattle.carafe_core.proofs.laws.one_answer.Goals as goal

pub returns : goal.returns
returns c = job_exact
