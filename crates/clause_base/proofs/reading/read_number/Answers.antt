use Rattle.std.proofs.Common.{sym, arith}
use Rattle.clause_base.specs.Readers.{word_of}
use Rattle.clause_base.proofs.NumberLemmas.{over_most}
use Rattle.clause_base.proofs.ReadingLemmas.{takes_one, large_number}
use Rattle.clause_base.proofs.reading.read_number.Goals as goal

pub returns-in-Some-read_decimal-clause-taken : goal.returns-in-Some-read_decimal-clause-taken
returns-in-Some-read_decimal-clause-taken c =
    takes_one (word_of c.in-Some.word) _ c.in-Some.ensures.word c.in-Some-read_decimal.ensures.spelled

pub returns-in-None-clause-refused : goal.returns-in-None-clause-refused
returns-in-None-clause-refused c = large_number (word_of c.in-Some.word) c.args.most c.args.words.now.end c.in-Some.ensures.word
    (over_most c.in-Some.word.text.now c.args.most (omega (arith, c.ranges.most.fits)) (sym c.if-is_number.ensures)
    (λ n few spelled. c.in-None.ensures.none n (omega (arith, few, c.from.ensures)) spelled))
