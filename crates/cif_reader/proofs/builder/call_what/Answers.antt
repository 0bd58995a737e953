use Rattle.std.proofs.Common.{arith}
use Rattle.cif_grammar.specs.Words.{limit}
use Rattle.cif_reader.proofs.Measures.{number_small}
use Rattle.cif_reader.proofs.builder.call_what.Goals as goal

pub overflow_cast-result : goal.overflow_cast-result
unfolding limit
overflow_cast-result c = omega (arith, number_small c.args.symbol.value _ c.requires.fine.small)
