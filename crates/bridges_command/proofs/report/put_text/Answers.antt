use Rattle.std.proofs.Common.{refl}
use Rattle.probe_io.proofs.Putting.{puts_cut, puts_then, cut_after, cut_more}
use Rattle.bridges_command.proofs.report.put_text.Goals as goal

pub returns-in_err-put_bridges : goal.returns-in_err-put_bridges
returns-in_err-put_bridges g c =
    puts_cut c.from_residual-in_err-put_bridges.ensures.0 (cut_after c.in_ok-put.ensures.whole (cut_more _ c.in_err-put_bridges.ensures.cut))

pub returns : goal.returns
returns g c = puts_then refl c.in_ok-put.ensures (puts_then refl c.in_ok-put_bridges.ensures c.put-2.ensures)
