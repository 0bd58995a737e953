use Rattle.std.proofs.Common.{◌∙◌, ap}
use Rattle.std.specs.Prelude.{is_some}
use Rattle.std.specs.List.{list_any}
use Rattle.cif_reader.specs.File.{Contents, has_number}
use Rattle.cif_reader.proofs.Numbered.{numbered_lookup, some_any}
use Rattle.cif_reader.proofs.file.CifFile.is_defined.Goals as goal

pub returns : goal.returns
returns c =
    c.contains_key.ensures ∙ ap is_some (numbered_lookup c.args.number c.self.inside.symbols.entries c.self.invariant.0) ∙ some_any (has_number c.args.number) _
    ∙ ap (λ (v : Contents). list_any (has_number c.args.number) v.symbols) c.self.view_is
