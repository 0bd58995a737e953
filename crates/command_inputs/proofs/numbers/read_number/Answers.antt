use Rattle.std.proofs.Common.{◌∙◌, arith}
use Rattle.clause_base.proofs.NumberLemmas.{decimal_value}
use Rattle.command_inputs.proofs.numbers.read_number.Goals as goal

pub returns-then-number-eq0-clause-none : goal.returns-then-number-eq0-clause-none
returns-then-number-eq0-clause-none c = λ n some few spelled.
    let here = decimal_value c.as_bytes.result.now c.in_ok-number.number (omega (arith, c.if-number-eq0.true)) c.in_ok-number.ensures.spelled in
    let value = decimal_value c.as_bytes.result.now n (omega (arith, few, c.ranges.most.fits)) (c.as_bytes.ensures.value ∙ spelled) in
    omega (arith, here, value, c.if-number-eq0.true, some)
