use Rattle.std.proofs.Common.{arith}
use Rattle.clause_base.proofs.NumberLemmas.{decimal_value}
use Rattle.clause_base.proofs.numbers.variable.Goals as goal

pub returns-then-size-eq0-clause-none : goal.returns-then-size-eq0-clause-none
returns-then-size-eq0-clause-none c = λ n some few spelled.
    let here = decimal_value c.args.word.now c.in_ok-size.size (omega (arith, c.if-size-eq0.true)) c.in_ok-size.ensures.spelled in
    let value = decimal_value c.args.word.now n (omega (arith, few, c.requires)) spelled in
    omega (arith, here, value, c.if-size-eq0.true, some)
