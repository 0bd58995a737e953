use Rattle.std.proofs.Common.{sym, ap, refl}
use Rattle.cif_reader.specs.Built.{opening_of}
use Rattle.cif_reader.proofs.Closing.{on_ok, closed_is}
use Rattle.cif_reader.proofs.builder.Builder.finish.Goals as goal

pub define-requires-clause-another : goal.define-requires-clause-another
define-requires-clause-another c =
    c.requires.another (record { at = c.in-Some.definition.pos; symbol = c.in-Some.definition.number; scale = c.in-Some.definition.scale }) (ap opening_of (sym c.in-Some.ensures.value))

pub returns-clause-symbols : goal.returns-clause-symbols
returns-clause-symbols c =
    on_ok c.define.result (λ e. closed_is c.args.self.now.definition c.in-Some.definition c.args.self.now.file.symbols _ _ c.in-Some.ensures.value refl refl refl e) c.define.ensures.symbols
