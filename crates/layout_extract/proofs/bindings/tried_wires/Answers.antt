use Rattle.std.proofs.Common.{◌∙◌, ap, sym, Some, None}
use Rattle.layer_map.specs.Views.{numbers_seen}
use Rattle.layout_extract.specs.Labels.{tried_wires}
use Rattle.layout_extract.proofs.WireLists.{tried_line}
use Rattle.layout_extract.proofs.bindings.tried_wires.Goals as goal

pub returns-in-Some-line_of : goal.returns-in-Some-line_of
returns-in-Some-line_of c =
    ap (λ ws. numbers_seen ws) c.as_slice.ensures.value
    ∙ sym (tried_line c.args.map.now c.in-Some.layer c.labels.result.now (Some c.in-Some-line_of.line.now) c.labels.ensures.same c.in-Some-line_of.ensures) ∙ ap (λ l. tried_wires c.args.map.now l) (sym c.in-Some.is)

pub returns-in-None : goal.returns-in-None
returns-in-None c =
    c.requires ∙ sym (tried_line c.args.map.now c.in-Some.layer c.labels.result.now None c.labels.ensures.same c.in-None.ensures)
    ∙ ap (λ l. tried_wires c.args.map.now l) (sym c.in-Some.is)
