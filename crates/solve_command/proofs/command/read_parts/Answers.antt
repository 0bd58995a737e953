use Rattle.command_base.proofs.Judging.{stops, goes_on, judged_as, gives_just}
use Rattle.solve_command.specs.Views.{searched}
use Rattle.solve_command.proofs.command.read_parts.Goals as goal

pub returns-in_err-budget-clause-judges : goal.returns-in_err-budget-clause-judges
returns-in_err-budget-clause-judges g c = judged_as c.from_residual.ensures.1 (stops (c.in_err-budget.ensures.judges _))

pub returns-in_err-formula-clause-judges : goal.returns-in_err-formula-clause-judges
returns-in_err-formula-clause-judges g c =
    goes_on (c.in_ok-budget.ensures.judges _) (judged_as c.from_residual-in_err-formula.ensures.1 (stops c.in_err-formula.ensures))

pub returns-clause-judges : goal.returns-clause-judges
returns-clause-judges g c = goes_on (c.in_ok-budget.ensures.judges _) (goes_on c.in_ok-formula.ensures (gives_just {view = searched}))
