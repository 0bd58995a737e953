use Rattle.clause_base.proofs.NumberLemmas.{signed}
use Rattle.clause_base.proofs.numbers.literal.Goals as goal

pub returns-in_err-variable-in-Some-clause-none : goal.returns-in_err-variable-in-Some-clause-none
returns-in_err-variable-in-Some-clause-none c =
    rw c.from_residual.ensures (signed c.args.vars c.args.word.now c.in-Some.rest.now c.requires c.in-Some.ensures.found c.in_err-variable-in-Some.ensures.none)
