use Rattle.std.specs.Int.{w128}
use Rattle.std.proofs.Common.{rules, arith, FitsSigned}
use Rattle.std.proofs.lemmas.Int.{to_z-of_z}
use Rattle.cif_grammar.specs.Words.{limit}
use Rattle.cif_reader.proofs.Measures.{quotient_small}
use Rattle.cif_reader.proofs.measure.Scale.size.Goals as goal

pub overflow_cast-result : goal.overflow_cast-result
unfolding limit
overflow_cast-result c =
    let z : FitsSigned w128 c.args.z = search rules in
    let times = simp to_z-of_z at c.times_a.ensures in
    let small = quotient_small limit c.args.self.b _ c.requires.not_far in
    rw (times, c.from.ensures) (omega (arith, small))

pub returns-clause-small : goal.returns-clause-small
returns-clause-small c =
    let z : FitsSigned w128 c.args.z = search rules in
    let times = simp to_z-of_z at c.times_a.ensures in
    rw (times, c.from.ensures) (quotient_small limit c.args.self.b _ c.requires.not_far)
