use Rattle.bridges_command.proofs.BridgesExact.{one_report}
use Rattle.bridges_command.proofs.laws.one_report.Goals as goal

pub returns : goal.returns
returns c = one_report
