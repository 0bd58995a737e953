use Rattle.std.proofs.Common.{refl}
use Rattle.command_base.proofs.Judging.{stops, goes_on, judged_as, layer_stops}
use Rattle.command_inputs.proofs.files.read_layout.Goals as goal

pub returns-in_err-file : goal.returns-in_err-file
returns-in_err-file g c = goes_on c.in_ok-map.ensures (judged_as c.from_residual-in_err-file.ensures.1 (stops c.in_err-file.ensures))

pub returns-in-Err : goal.returns-in-Err
returns-in-Err g c =
    goes_on c.in_ok-map.ensures (goes_on c.in_ok-file.ensures
    (stops {view = λ named. named} (layer_stops c.in-Err.refusal c.stopped.ensures (λ r is. c.in-Err.ensures.refused c.in-Err.refusal refl))))
