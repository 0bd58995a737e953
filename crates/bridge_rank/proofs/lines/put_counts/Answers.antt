use Rattle.probe_io.proofs.Putting.{puts_cut, cut_at}
use Rattle.bridge_rank.specs.Lines.{wire_count, line_names}
use Rattle.bridge_rank.proofs.lines.put_counts.Goals as goal

pub returns-in_err-put_count : goal.returns-in_err-put_count
returns-in_err-put_count g c =
    puts_cut c.from_residual.ensures.0
    (cut_at (wire_count (line_names c.args.wires.now)) c.args.counts.now c.loop-count.count-index _ c.loop-count-test.true c.loop-count.invariant.written c.in_err-put_count.ensures.cut)
