use Rattle.std.proofs.Common.{◌∙◌}
use Rattle.std.proofs.lemmas.List.{length-set}
use Rattle.switch_net.proofs.Marking.{terminals_more}
use Rattle.switch_net.proofs.marks.terminals.Goals as goal

pub loop-fet-preserved : goal.loop-fet-preserved
loop-fet-preserved c =
    let h = c.loop-fet.invariant in
    record {
      each = length-set _ _ _ ∙ length-set _ _ _ ∙ h.each;
      is = terminals_more c.args.nets c.loop-fet.marks.items c.args.fets.now c.loop-fet.fet-index _ c.requires c.loop-fet-test.true h.each h.is;
    }
