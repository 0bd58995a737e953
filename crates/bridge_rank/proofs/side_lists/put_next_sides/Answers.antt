use Rattle.probe_io.proofs.Putting.{puts_cut, cut_at}
use Rattle.defect_sweep.specs.SideTexts.{next_text}
use Rattle.bridge_rank.proofs.side_lists.put_next_sides.Goals as goal

pub returns-in_err-put_side : goal.returns-in_err-put_side
returns-in_err-put_side g c =
    puts_cut c.from_residual.ensures.0
    (cut_at next_text c.args.sides.now c.loop-side.side-index _ c.loop-side-test.true c.loop-side.invariant.written c.in_err-put_side.ensures.cut)
