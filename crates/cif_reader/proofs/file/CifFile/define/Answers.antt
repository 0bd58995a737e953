use Rattle.std.proofs.Common.{◌∙◌, ap, ◌++◌, ◌∷◌, []}
use Rattle.std.specs.List.{list_any}
use Rattle.cif_reader.specs.File.{Contents, has_number}
use Rattle.cif_reader.proofs.Numbered.{defined}
use Rattle.cif_reader.proofs.file.CifFile.define.Goals as goal

pub invariant_of-self-2 : goal.invariant_of-self-2
invariant_of-self-2 c =
    let another = ap (λ (v : Contents). list_any (has_number c.args.symbol.number) v.symbols) c.self.view_is ∙ c.requires.another in
    let d = defined c.self.inside.symbols.entries _ c.args.symbol c.self.inside.top.items c.self.invariant.0 c.self.invariant.2 another c.requires.kept c.in_ok-insert.ensures.entries in
    (d.numbered, c.insert.ensures.unique, d.is_file)

pub returns-clause-symbols : goal.returns-clause-symbols
returns-clause-symbols c =
    let another = ap (λ (v : Contents). list_any (has_number c.args.symbol.number) v.symbols) c.self.view_is ∙ c.requires.another in
    let d = defined c.self.inside.symbols.entries _ c.args.symbol c.self.inside.top.items c.self.invariant.0 c.self.invariant.2 another c.requires.kept c.in_ok-insert.ensures.entries in
    d.symbols ∙ ap (λ (v : Contents). v.symbols ++ c.args.symbol ∷ []) c.self.view_is
