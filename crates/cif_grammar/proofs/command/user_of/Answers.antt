use Rattle.std.proofs.Common.{sym}
use Rattle.cif_grammar.proofs.Texts.{no_text, text_up_to}
use Rattle.cif_grammar.proofs.command.user_of.Goals as goal

pub returns-in_err-place : goal.returns-in_err-place
returns-in_err-place c = rw c.from_residual.ensures (sym (no_text c.args.bytes.now c.in_err-place.ensures))

pub returns : goal.returns
returns c = sym (text_up_to c.args.bytes.now c.in_ok-place.place c.in_ok-place.ensures)
