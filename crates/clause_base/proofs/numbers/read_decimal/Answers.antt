use Rattle.std.proofs.Common.{sym, ap, ◌∙◌, arith}
use Rattle.std.specs.Fmt.{decimal}
use Rattle.clause_base.proofs.NumberLemmas.{no_decimal, decimal_value, decimal_of}
use Rattle.clause_base.proofs.numbers.read_decimal.Goals as goal

pub returns-then-not-is_number-clause-none : goal.returns-then-not-is_number-clause-none
returns-then-not-is_number-clause-none c = λ n few spelled.
    no_decimal c.args.bytes.now n (omega (arith, few, c.ranges.most.fits)) (sym c.if-not-is_number.ensures) spelled

pub returns-in_err-number-clause-none : goal.returns-in_err-number-clause-none
returns-in_err-number-clause-none c = rw c.from_residual.ensures (λ n few spelled.
    let value = decimal_value c.args.bytes.now n (omega (arith, few, c.ranges.most.fits)) spelled in
    c.in_err-number.ensures (omega (arith, value, few, c.ranges.most.fits)))

pub returns-then-number-most-clause-none : goal.returns-then-number-most-clause-none
returns-then-number-most-clause-none c = λ n few spelled.
    let value = decimal_value c.args.bytes.now n (omega (arith, few, c.ranges.most.fits)) spelled in
    omega (arith, value, few, c.if-number-most.true, c.in_ok-number.ensures.1)

pub returns-clause-spelled : goal.returns-clause-spelled
returns-clause-spelled c =
    sym (decimal_of c.args.bytes.now (sym c.if-not-is_number.ensures) c.in_ok-number.ensures.0) ∙ ap decimal (sym c.in_ok-number.ensures.1)
