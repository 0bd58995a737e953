use Rattle.std.proofs.Common.{ap, sym, ◌∙◌, inr}
use Rattle.std.specs.Prelude.{is_some}
use Rattle.cif_reader.specs.File.{has_number}
use Rattle.cif_reader.proofs.Numbered.{some_any}
use Rattle.cif_flatten.proofs.Lookups.{some_copied}
use Rattle.cif_flatten.proofs.Sizing.{size_undefined, nothing}
use Rattle.cif_flatten.proofs.sizes.known_size.Goals as goal

pub returns-in-None-clause-waiting : goal.returns-in-None-clause-waiting
returns-in-None-clause-waiting c = inr (
  sym c.in-None.ensures.value,
  sym (some_any (has_number c.args.number) c.args.file.now.symbols) ∙ ap is_some (sym c.symbol.ensures) ∙ sym (some_copied c.symbol.result) ∙ sym c.is_some.ensures ∙ c.if-is_some.true,
)

pub returns-in-None-2-clause-known : goal.returns-in-None-2-clause-known
unfolding nothing
returns-in-None-2-clause-known c =
    size_undefined c.args.file.now.symbols c.args.number (ap is_some (sym c.symbol.ensures) ∙ sym (some_copied c.symbol.result) ∙ sym c.is_some.ensures ∙ c.if-is_some.false)
