use Rattle.command_base.proofs.Judging.{stops, goes_on, judged_as, gives_just}
use Rattle.command_inputs.specs.Views.{mapped}
use Rattle.bridges_command.specs.Views.{subject_of}
use Rattle.bridges_command.proofs.Judged.{ranked_of}
use Rattle.bridges_command.proofs.command.read_parts.Goals as goal

pub returns-in_err-sides : goal.returns-in_err-sides
returns-in_err-sides g c = judged_as c.from_residual.ensures.1 (stops (c.in_err-sides.ensures.judges _))

pub returns-in_err-mapped : goal.returns-in_err-mapped
returns-in_err-mapped g c =
    goes_on (c.in_ok-sides.ensures.judges _) (judged_as c.from_residual-in_err-mapped.ensures.1 (stops c.in_err-mapped.ensures))

pub returns-in_err-ranked : goal.returns-in_err-ranked
returns-in_err-ranked g c =
    goes_on (c.in_ok-sides.ensures.judges _) (goes_on c.in_ok-mapped.ensures
    (judged_as c.from_residual-in_err-ranked.ensures.1 (stops (ranked_of (mapped c.in_ok-mapped.mapped) c.as_slice.ensures.value (c.in_err-ranked.ensures _)))))

pub returns : goal.returns
returns g c =
    goes_on (c.in_ok-sides.ensures.judges _) (goes_on c.in_ok-mapped.ensures
    (goes_on (ranked_of (mapped c.in_ok-mapped.mapped) c.as_slice.ensures.value (c.in_ok-ranked.ensures _)) (gives_just {view = subject_of})))
