use Rattle.std.proofs.Common.{ℕ, List, length, ap, ◌∙◌}
use Rattle.probe_io.proofs.Putting.{puts_is}
use Rattle.bridges_command.proofs.LineLemmas.{text_is}
use Rattle.bridges_command.proofs.report.put_report.Goals as goal

pub returns : goal.returns
returns g c =
    let subject = c.args.subject.now in
    puts_is (text_is _ subject.sides.items c.wires.result.now subject.mapped.map _ subject.mapped.named c.tallies.result _ subject.ranked.items _ _
    c.as_slice.ensures.value c.wires.ensures.same c.names-2.ensures.same c.tallies.ensures c.as_slice-2.ensures.value (ap (λ (names : List (List ℕ)). length names) c.names.ensures.same) (c.len.ensures ∙ subject.ranked.ok.0))
    c.put_text.ensures
