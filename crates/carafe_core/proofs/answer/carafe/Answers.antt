use Rattle.command_base.proofs.Answering.{refuses_where, reports_where, tells_faults}
use Rattle.carafe_core.proofs.CommandsExact.{job_exact}
use Rattle.carafe_core.proofs.answer.carafe.Goals as goal

pub returns-clause-refused : goal.returns-clause-refused
returns-clause-refused g c = refuses_where (λ files. job_exact c.args.words.now files) c.answered.ensures

pub returns-clause-complete : goal.returns-clause-complete
returns-clause-complete g c = reports_where c.answered.ensures

pub returns-clause-faults : goal.returns-clause-faults
returns-clause-faults g c = tells_faults c.answered.ensures
