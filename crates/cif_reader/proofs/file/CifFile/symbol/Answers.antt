use Rattle.std.proofs.Common.{◌∙◌, ap}
use Rattle.std.specs.Prelude.{find}
use Rattle.cif_reader.specs.File.{Contents, has_number}
use Rattle.cif_reader.proofs.Numbered.{numbered_lookup}
use Rattle.cif_reader.proofs.file.CifFile.symbol.Goals as goal

pub returns : goal.returns
returns c =
    c.get.ensures.value ∙ numbered_lookup c.args.number c.self.inside.symbols.entries c.self.invariant.0
    ∙ ap (λ (v : Contents). find (has_number c.args.number) v.symbols) c.self.view_is
