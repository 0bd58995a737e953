use Rattle.std.proofs.Common.{◌∙◌, ap}
use Rattle.std.specs.Prelude.{is_some}
use Rattle.cif_reader.specs.File.{has_number}
use Rattle.cif_reader.proofs.Numbered.{some_any}
use Rattle.cif_flatten.proofs.Lookups.{some_copied}
use Rattle.cif_flatten.proofs.calls.is_defined.Goals as goal

pub returns : goal.returns
returns c = c.is_some.ensures ∙ some_copied c.symbol.result ∙ ap is_some c.symbol.ensures ∙ some_any (has_number c.args.number) c.args.file.now.symbols
