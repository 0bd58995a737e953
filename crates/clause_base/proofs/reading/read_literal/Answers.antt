use Rattle.std.proofs.Common.{◌∙◌}
use Rattle.std.specs.Cmp.Lexicographic.{same_text}
use Rattle.clause_base.specs.Readers.{word_of}
use Rattle.clause_base.proofs.ReadingLemmas.{takes_one}
use Rattle.clause_base.proofs.reading.read_literal.Goals as goal

pub returns-then-eq-clause-taken : goal.returns-then-eq-clause-taken
returns-then-eq-clause-taken c = takes_one (word_of c.in-Some.word) _ c.in-Some.ensures.word (same_text c.in-Some.word.text.now c.as_slice.result.now c.if-eq.ensures ∙ c.as_slice.ensures)

pub returns-in-Some-literal-clause-taken : goal.returns-in-Some-literal-clause-taken
returns-in-Some-literal-clause-taken c = takes_one (word_of c.in-Some.word) _ c.in-Some.ensures.word c.in-Some-literal.ensures.spelled
