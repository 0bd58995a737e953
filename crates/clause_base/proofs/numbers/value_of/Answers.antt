use Rattle.std.proofs.Common.{sym, ap, ◌∙◌}
use Rattle.std.specs.Prelude.{is_some}
use Rattle.clause_base.proofs.LiteralLemmas.{no_both}
use Rattle.clause_base.proofs.NumberLemmas.{digits_of_number, digits_utf8, is_text, text_is, parsed}
use Rattle.clause_base.proofs.numbers.value_of.Goals as goal

pub returns-in_err-ok : goal.returns-in_err-ok
returns-in_err-ok c =
    let text = is_text _ _ c.from_utf8.result c.from_utf8.ensures.cases
    (λ e other. other.0 (digits_utf8 c.args.digits.now (digits_of_number c.args.digits.now c.requires))) in
    absurd (no_both text (sym c.ok.ensures.variant ∙ ap is_some c.in_err-ok.was))

pub returns : goal.returns
returns c =
    let text = text_is _ _ c.from_utf8.result c.ok.result c.in_ok-ok.field-0 c.from_utf8.ensures.cases c.ok.ensures.value c.in_ok-ok.was in
    parsed c.parse.result c.ok-2.result c.in_ok-ok.field-0.now c.args.digits.now c.requires text.0
    c.parse.ensures.value.0 c.ok-2.ensures.value
