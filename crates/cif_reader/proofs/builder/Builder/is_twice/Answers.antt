use Rattle.std.proofs.Common.{arith}
use Rattle.cif_grammar.specs.Words.{limit}
use Rattle.cif_reader.specs.Faults.{is_large, numbers}
use Rattle.cif_grammar.specs.Grammar.{start}
use Rattle.cif_reader.proofs.Finding.{find_none}
use Rattle.cif_reader.proofs.Starting.{start_small}
use Rattle.cif_reader.proofs.builder.Builder.is_twice.Goals as goal

pub returns-else-symbol-from : goal.returns-else-symbol-from
unfolding limit
returns-else-symbol-from c = λ before h none.
    let small = start_small c.in-Start.symbol c.in-Start.scale (find_none is_large (numbers (start c.in-Start.symbol c.in-Start.scale)) (rw c.in-Start.is at none)) in
    absurd (omega (arith, small, c.from.ensures, c.if-symbol-from.false))
