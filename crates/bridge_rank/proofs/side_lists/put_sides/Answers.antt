use Rattle.std.proofs.Common.{◌∙◌, refl, sym, ap}
use Rattle.probe_io.proofs.Putting.{puts_then, puts_is}
use Rattle.defect_sweep.specs.SideTexts.{sides_text}
use Rattle.bridge_rank.proofs.SideTextLemmas.{sides_in_row}
use Rattle.bridge_rank.proofs.side_lists.put_sides.Goals as goal

pub returns : goal.returns
returns g c =
    puts_is (sides_in_row c.in-Some.first.now c.in-Some.rest.now ∙ ap sides_text (sym c.in-Some.ensures.cases.0)) (puts_then refl c.in_ok-put_side.ensures c.put_next_sides.ensures)
