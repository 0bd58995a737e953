use Rattle.std.proofs.Common.{arith}
use Rattle.std.proofs.lemmas.Str.Parse.{digit_at}
use Rattle.cif_grammar.specs.Words.{limit}
use Rattle.cif_grammar.proofs.Numbers.{value_more}
use Rattle.cif_grammar.proofs.words.value_of_digits.Goals as goal

pub overflow_sub-digit : goal.overflow_sub-digit
overflow_sub-digit c = omega (arith, digit_at _ _ c.requires c.loop-digit-test.true)

pub loop-digit-preserved : goal.loop-digit-preserved
unfolding limit
loop-digit-preserved c = let more = value_more _ _ _ c.requires c.loop-digit-test.true c.loop-digit.invariant in rw (c.min-value.ensures, c.from.ensures) more
