use Rattle.std.specs.Cmp.Lexicographic.{same_text}
use Rattle.clause_base.specs.Readers.{word_of}
use Rattle.clause_base.proofs.ReadingLemmas.{takes_one, turned}
use Rattle.clause_base.proofs.reading.read_keyword.Goals as goal

pub returns-clause-taken : goal.returns-clause-taken
returns-clause-taken c = takes_one (word_of c.in-Some.word) c.args.keyword.now c.in-Some.ensures.word (same_text c.in-Some.word.text.now c.args.keyword.now (turned _ c.if-ne.ensures))
