use Rattle.cif_flatten.proofs.First.{first_other}
use Rattle.cif_flatten.proofs.calls.earlier.Goals as goal

pub returns-in-Some-Some : goal.returns-in-Some-Some
returns-in-Some-Some c = first_other c.args.one c.args.other _ _ c.in-Some-Some.is-0 c.in-Some-Some.is-1 c.if-b-a.true
