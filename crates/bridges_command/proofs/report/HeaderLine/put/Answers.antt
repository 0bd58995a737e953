use Rattle.std.proofs.Common.{refl}
use Rattle.probe_io.proofs.Putting.{puts_cut, puts_then, cut_after, cut_more}
use Rattle.bridges_command.proofs.report.HeaderLine.put.Goals as goal

pub returns-in_err-put_sides : goal.returns-in_err-put_sides
returns-in_err-put_sides g c =
    puts_cut c.from_residual-in_err-put_sides.ensures.0 (cut_after c.in_ok-put_opening.ensures.whole (cut_more _ c.in_err-put_sides.ensures.cut))

pub returns : goal.returns
returns g c = puts_then refl c.in_ok-put_opening.ensures (puts_then refl c.in_ok-put_sides.ensures c.put_numbers.ensures)
