use Rattle.command_base.proofs.Jobbing.{job_writes}
use Rattle.bridges_command.specs.Views.{subject_of}
use Rattle.bridges_command.proofs.command.bridges.Goals as goal

pub returns : goal.returns
returns g c = job_writes {view = subject_of} c.in_ok-subject.ensures c.write_report.ensures
